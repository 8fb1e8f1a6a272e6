-- From the start to the last entry.
use Rattle.rim.specs.Values.{office_of}
use Rattle.peel.proofs.Outlining.{drawn_all, enough, written_all}
use Rattle.peel.proofs.listing.list_accepted.Goals as goal

pub list_all-count-requires-clause-peeled_in_bounds : goal.list_all-count-requires-clause-peeled_in_bounds
list_all-count-requires-clause-peeled_in_bounds c =
    let a = c.args in
    enough (office_of a.office.now.sheet) a.least.now a.peeled.now a.area.now c.begin-begun.ensures.state c.requires.entries_fit

pub returns-clause-lent : goal.returns-clause-lent
returns-clause-lent c =
    let a = c.args in
    (drawn_all (office_of a.office.now.sheet) 0 a.kept.now a.rim.now a.ring.now (c.begin-begun.ensures.state, c.begin-begun.ensures.rest_unchanged) c.list_all-count.ensures.drew c.lay_ring.ensures).lent

pub returns-clause-written : goal.returns-clause-written
returns-clause-written c =
    let a = c.args in
    written_all (office_of a.office.now.sheet) a.least.now a.peeled.now a.area.now c.begin-begun.ensures.state c.requires.entries_fit c.list_all-count.ensures.noted
