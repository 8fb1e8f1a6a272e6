-- Document 02, 5/13: what the log writer and a replay answer, and what each lent list holds afterwards, for all inputs. Assumes nothing.
use Rattle.std.specs.Prelude.{ℕ, true, cond, List, ◌++◌, leb, length, drop}
use Rattle.sheet.specs.Office.{Office, office}
use Rattle.sheet.specs.Verdict.{Verdict, accepted, refused, verdict}
use Rattle.peel.specs.Log.{log, replay_outcome}
use Rattle.peel.specs.Answer.{Answer, count, refusal, AfterDraw, draw_room, drawing}

-- ---- the writer lends no marks; its answer is the bytes written
pub record AfterLog : Type 0 where
  pub answer : Answer
  pub out : List ℕ

-- the log stands in front; 45 where it does not fit, after the office's refusals; a refusal writes nothing
unfoldable pub written : List ℕ → List ℕ → AfterLog
written bytes out = cond (leb (length bytes) (length out))
    (record { answer = count (length bytes); out = bytes ++ drop (length bytes) out })
    (record { answer = refusal 45 0; out = out })

unfoldable pub logged : Office → ℕ → List ℕ → Verdict → AfterLog
logged o limit out (accepted hull) = written (log o limit) out
logged o limit out (refused number place) = record { answer = refusal number place; out = out }

unfoldable pub after_log : List ℕ → List ℕ → List ℕ → ℕ → List ℕ → AfterLog
after_log xs ys corners limit out = logged (office xs ys corners) limit out (verdict true (office xs ys corners))

-- ---- a replay answers the tally, and leaves marks and ring as a draw does; with no step back it is the first form
unfoldable pub after_replay : List ℕ → List ℕ → List ℕ → List ℕ → ℕ → List ℕ → List ℕ → List ℕ → AfterDraw
after_replay xs ys corners bytes back kept rim round =
    drawing (office xs ys corners) (replay_outcome (draw_room (office xs ys corners) kept rim round) (office xs ys corners) bytes back) kept rim round
