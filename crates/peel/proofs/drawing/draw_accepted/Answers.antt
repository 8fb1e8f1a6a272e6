-- From the start to the last peel.
use Rattle.rim.specs.Values.{office_of}
use Rattle.peel.proofs.Outlining.{drawn_all}
use Rattle.peel.proofs.drawing.draw_accepted.Goals as goal

pub returns : goal.returns
returns c =
    let a = c.args in
    drawn_all (office_of a.office.now.sheet) _ a.kept.now a.rim.now a.ring.now (c.begin-begun.ensures.state, c.begin-begun.ensures.rest_unchanged) c.peel_all-tally.ensures c.lay_ring.ensures
