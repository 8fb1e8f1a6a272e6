-- What the code's values stand for. Assumes nothing.
use Rattle.std.specs.Prelude.{◌≡◌, Option, Some, None, Bool, cond, ◌&&◌, List, [], ℕ, suc, ◌+◌, ◌*◌, ◌/◌, ◌%◌, ◌<◌, ◌≤◌, ltb, eqb, ℤ, pos, ◌+ℤ◌, ◌-ℤ◌, ◌*ℤ◌, length, get_or, take, drop}
use Rattle.laws.specs.First.{first, final, table}
use Rattle.sheet.specs.Plane.{Point, Small, spot, dx, dy, turn}
use Rattle.sheet.specs.Office.{Office, office, bare, points, sides, point, tail, head, last, rim, mate_of}

-- the points alone
abbrev pub cloud : List ℕ → List ℕ → Office
cloud xs ys = office xs ys []

-- a number below 1,024 that goes by the coordinates alone, and those of all points: equal points have the same
abbrev pub bucket : ℕ → ℕ → ℕ
bucket x y = (x * 40503 + y * 24593) / 4096 % 1024

abbrev pub buckets : List ℕ → List ℕ → List ℕ
buckets xs ys = table (λ p. bucket (get_or xs p 0) (get_or ys p 0)) (length xs)

-- each corner is one of n points
abbrev pub Numbered : List ℕ → ℕ → Type 0
Numbered corners n = (s : ℕ) → s < length corners → get_or corners s 0 < n

-- what the refusals 1 to 7 leave: every corner is a point of the grid, and no point is another
pub record Plotted (o : Office) : Type 0 where
  pub paired : length o.xs ≡ length o.ys
  pub few : points o ≤ 1024
  pub some : 0 < points o
  pub whole : sides o % 3 ≡ 0
  pub short : sides o ≤ 6129
  pub small : (p : ℕ) → p < points o → Small (point o p)
  pub distinct : (p q : ℕ) → p < points o → q < points o → get_or o.xs p 0 ≡ get_or o.xs q 0 → get_or o.ys p 0 ≡ get_or o.ys q 0 → p ≡ q
  pub numbered : (s : ℕ) → s < sides o → tail o s < points o

-- the coordinates of point p
pub record At (o : Office) (p x y : ℕ) : Type 0 where
  pub across : x ≡ get_or o.xs p 0
  pub up : y ≡ get_or o.ys p 0
  pub small : Small (spot x y)

-- side r starts at point p; side r ends at point q
abbrev pub starts : List ℕ → ℕ → ℕ → Bool
starts corners p r = eqb (tail (bare corners) r) p

abbrev pub ends : List ℕ → ℕ → ℕ → Bool
ends corners q r = eqb (head (bare corners) r) q

-- for each side the latest earlier one from the same point, and for each point the latest side from it; 65,535 for none
pub record Chained (corners : List ℕ) (earlier latest : List ℕ) : Type 0 where
  pub earlier_is : (s : ℕ) → s < length corners → get_or earlier s 0 ≡ final 65535 (starts corners (get_or corners s 0)) s
  pub latest_is : (p : ℕ) → p < 1024 → get_or latest p 0 ≡ final 65535 (starts corners p) (length corners)

-- for each point a side that ends there, or 65,535; so far none starts at p or above
pub record Noted (corners : List ℕ) (p : ℕ) (noted : List ℕ) : Type 0 where
  pub long : length noted ≡ 1024
  pub there : (q : ℕ) → q < 1024 → get_or noted q 0 < 65535 → get_or noted q 0 < length corners
  pub ends_there : (q : ℕ) → q < 1024 → get_or noted q 0 < 65535 → head (bare corners) (get_or noted q 0) ≡ q
  pub low : (q : ℕ) → q < 1024 → get_or noted q 0 < 65535 → tail (bare corners) (get_or noted q 0) < p

-- each side from p is noted where it ends
abbrev pub Placed : List ℕ → ℕ → List ℕ → Type 0
Placed corners p noted = (s : ℕ) → s < length corners → tail (bare corners) s ≡ p → get_or noted (head (bare corners) s) 0 ≡ s

-- the mate of side s stands in the table
abbrev pub Right : List ℕ → List ℕ → ℕ → Type 0
Right corners mate s = get_or mate s 0 ≡ mate_of corners s

-- right places stay right, those of the sides that end at p become so, and what stands behind all sides stays as it was
pub record Righted (corners : List ℕ) (p : ℕ) (old mate : List ℕ) : Type 0 where
  pub long : length mate ≡ 6129
  pub keeps : (s : ℕ) → Right corners old s → Right corners mate s
  pub rights : (s : ℕ) → s < length corners → tail (bare corners) s ≡ p → Right corners mate (last s)
  pub rest : drop (length corners) mate ≡ drop (length corners) old

-- of the sides from the point where side r starts, up to r, the latest that ends at q
abbrev pub back_along : List ℕ → ℕ → ℕ → ℕ
back_along corners q r =
    cond (ltb r 65535) (final 65535 (λ i. starts corners (get_or corners r 0) i && ends corners q i) (suc r)) 65535

-- the side that a number stands for: 65,535 is none
abbrev pub side_of : ℕ → Option ℕ
side_of r = cond (ltb r 65535) (Some r) None

-- no triangle has a corner twice
abbrev pub Cornered : List ℕ → Type 0
Cornered corners = (s : ℕ) → s < length corners → tail (bare corners) s ≡ head (bare corners) s → ⊥

-- the table of mates in front of a longer list
abbrev pub Mated : List ℕ → List ℕ → Type 0
Mated corners mate = take (length corners) mate ≡ table (mate_of corners) (length corners)

-- x² + y² of point p
abbrev pub height : List ℕ → List ℕ → ℕ → ℕ
height xs ys p = get_or xs p 0 * get_or xs p 0 + get_or ys p 0 * get_or ys p 0

abbrev pub raised : Point → ℤ
raised a = pos (a.x * a.x + a.y * a.y)

-- twice the signed area that the way from a to b sweeps, seen from (0, 0)
abbrev pub swept : Point → Point → ℤ
swept a b = pos a.x *ℤ pos b.y -ℤ pos b.x *ℤ pos a.y

-- the product of the ways from p to a and to b
abbrev pub dot : Point → Point → Point → ℤ
dot p a b = dx p a *ℤ dx p b +ℤ dy p a *ℤ dy p b

-- the in-circle value of the triangle a b c at (x, y) is across x + up y + rest - lift (x² + y²)
pub record Coefficients (a b c : Point) (across up rest lift : ℤ) : Type 0 where
  pub across_is : across ≡ raised a *ℤ dy c b +ℤ raised b *ℤ dy a c +ℤ raised c *ℤ dy b a
  pub up_is : up ≡ raised a *ℤ dx b c +ℤ raised b *ℤ dx c a +ℤ raised c *ℤ dx a b
  pub rest_is : rest ≡ raised a *ℤ swept b c +ℤ raised b *ℤ swept c a +ℤ raised c *ℤ swept a b
  pub lift_is : lift ≡ turn a b c

abbrev pub linear : ℤ → ℤ → ℤ → ℤ → ℕ → ℕ → ℕ → ℤ
linear across up rest lift x y height = across *ℤ pos x +ℤ up *ℤ pos y +ℤ rest -ℤ lift *ℤ pos height

-- side s is on the rim and starts at point p
abbrev pub leaves : List ℕ → ℕ → ℕ → Bool
leaves corners p s = eqb (tail (bare corners) s) p && rim (bare corners) s

-- for each point the first rim side from it, or the number of sides
abbrev pub Leaving : List ℕ → List ℕ → Type 0
Leaving corners list = (p : ℕ) → p < 1024 → get_or list p 0 ≡ first (leaves corners p) (length corners)
