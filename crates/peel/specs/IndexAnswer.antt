-- Document 02, 11/13: what the index call answers, and what each lent list holds afterwards, for all inputs; and what that means, in plain logic.
-- Assumes nothing.
use Rattle.std.specs.Prelude.{◌≡◌, ℕ, ◌-◌, ◌<◌, ◌≤◌, Bool, ◌&&◌, List, ◌++◌, leb, length, get_or, take, drop}
use Rattle.laws.specs.First.{count}
use Rattle.sheet.specs.Office.{Office, office, points}
use Rattle.sheet.specs.Acceptable.{Acceptable}
use Rattle.sheet.specs.Verdict.{Verdict, accepted, refused, verdict}
use Rattle.rim.specs.Peel.{on_rim, drawn}
use Rattle.peel.specs.List.{entries}
use Rattle.peel.specs.LookUp.{place_of, Falling}
use Rattle.peel.specs.Index.{indices, limits, counts, Indexed}
use Rattle.peel.specs.Answer.{Answer, count as pairs, refusal}
use Rattle.peel.specs.Meaning.{Over}

-- the answer and the lent lists after an index
pub record AfterIndex : Type 0 where
  pub answer : Answer
  pub index : List ℕ
  pub limits : List ℕ
  pub counts : List ℕ

-- a number per point, and the pairs in front; a refusal writes nothing
unfoldable pub indexing : Office → Verdict → List ℕ → List ℕ → List ℕ → AfterIndex
indexing o (accepted h) index least number = record {
  answer = pairs (length (entries o));
  index = indices o ++ drop (points o) index;
  limits = limits o ++ drop (length (entries o)) least;
  counts = counts o ++ drop (length (entries o)) number;
}
indexing o (refused number place) index least numbers = record { answer = refusal number place; index = index; limits = least; counts = numbers }

abbrev pub index_room : Office → List ℕ → List ℕ → List ℕ → Bool
index_room o index least number = leb (points o) (length index) && leb (points o - 2) (length least) && leb (points o - 2) (length number)

unfoldable pub after_index : List ℕ → List ℕ → List ℕ → List ℕ → List ℕ → List ℕ → AfterIndex
after_index xs ys corners index least number = indexing (office xs ys corners) (verdict (index_room (office xs ys corners) index least number) (office xs ys corners)) index least number

-- the promise of index
pub record IndexPromise (xs ys corners index least number : List ℕ) (answer : Answer) (index' least' number' : List ℕ) : Type 0 where
  pub answers : answer ≡ (after_index xs ys corners index least number).answer
  pub index_is : index' ≡ (after_index xs ys corners index least number).index
  pub limits_are : least' ≡ (after_index xs ys corners index least number).limits
  pub counts_are : number' ≡ (after_index xs ys corners index least number).counts

-- an index call that answered c pairs
pub record IndexMeans (o : Office) (c : ℕ) (index least number index' least' number' : List ℕ) : Type 0 where
  pub acceptable : Acceptable o
  pub room : (points o ≤ length index) × (points o - 2 ≤ length least) × (points o - 2 ≤ length number)
  -- each point's number says when it is on the outline
  pub each : (p : ℕ) → p < points o → Indexed o p (get_or index' p 0)
  -- a pair for each entry, the limits in falling order
  pub pairs_are : c ≡ length (entries o)
  pub falling : Falling (take c least')
  -- and at every whole-number limit the pair looked up tells how many points are on the outline
  pub looks_up : (limit : ℕ) → get_or number' (place_of (take c least') limit) 0 ≡ count (on_rim o (drawn o limit)) (points o)
  -- later places stay
  pub indexes : Over (indices o) index index'
  pub leasts : Over (limits o) least least'
  pub numbers : Over (counts o) number number'
