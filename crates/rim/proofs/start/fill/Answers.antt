-- The front is written, and the rest stays.
use Rattle.rim.proofs.Begun.{filled_is}
use Rattle.rim.proofs.start.fill.Goals as goal

pub returns : goal.returns
returns c = filled_is _ _ _ _ c.requires (c.fill.ensures.after (λ y e. e))
