-- The three sides of a triangle. Assumes nothing.
use Rattle.std.proofs.Common.{rules, ◌∙◌, w32}
use mir.Facts.{to_z-of_z}
use Rattle.sheet.specs.Values.{office_of}
use Rattle.sheet.proofs.Neat.{second_cornering, third_cornering}
use Rattle.sheet.proofs.spots.Mesh.is_bad.Goals as goal

pub is_held-requires-2-clause-cornering : goal.is_held-requires-2-clause-cornering
is_held-requires-2-clause-cornering c = second_cornering (office_of c.args.self.now.plot) c.args.t c.corner-a.ensures c.corner-b.ensures c.corner-c.ensures (to_z-of_z {w = w32} (search rules) ∙ c.turn-area.ensures)

pub is_held-requires-3-clause-cornering : goal.is_held-requires-3-clause-cornering
is_held-requires-3-clause-cornering c = third_cornering (office_of c.args.self.now.plot) c.args.t c.corner-a.ensures c.corner-b.ensures c.corner-c.ensures (to_z-of_z {w = w32} (search rules) ∙ c.turn-area.ensures)
