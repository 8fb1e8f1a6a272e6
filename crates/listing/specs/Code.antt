-- What the code's values stand for. Assumes nothing.
use Rattle.std.specs.Prelude.{ℕ, zero, suc, ◌+◌, ◌*◌, ◌-◌, Bool, cond, ◌&&◌, List, [], ◌∷◌, leb, ltb, ◌≡◌, length}
use Rattle.std.proofs.Math.Option.{Option, none, some}
use Rattle.std.proofs.lemmas.List.Edits.{sets}
use Rattle.listing.specs.declared.printer.Line.{Line}
use Rattle.listing.specs.Text.{white, digit, before}

-- a word that ends: none where it has no digits
abbrev pub ended : ℕ → ℕ → Option (List ℕ) → Option (List ℕ)
ended zero v others = others
ended (suc d) v others = before (v ∷ []) others

-- byte b continues a word of d digits that say v
abbrev pub continues : ℕ → ℕ → ℕ → Bool
continues d v b = digit b && (ltb d 5 && leb (10 * v + (b - 48)) 65535)

-- the numbers of a text, byte by byte, where a word of d digits that say v has begun
unfoldable pub scanned : ℕ → ℕ → List ℕ → Option (List ℕ)
scanned d v [] = ended d v (some [])
scanned d v (b ∷ bs) =
    cond (white b) (ended d v (scanned 0 0 bs))
    (cond (continues d v b) (scanned (suc d) (10 * v + (b - 48)) bs) none)

-- s' is the line s after a text is put into it
pub record Puts (s s' : Line) (text : List ℕ) : Type 0 where
  pub same : s'.out.ghost_name ≡ s.out.ghost_name
  pub long : length s'.out.now ≡ length s.out.now
  pub puts : s'.out.now ≡ sets s.out.now s.at text
  pub ends : s'.at ≡ s.at + length text
