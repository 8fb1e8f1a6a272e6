-- The list of an acceptable office is complete. Assumes nothing.
use Rattle.sheet.specs.Office.{Office}
use Rattle.sheet.specs.Acceptable.{Acceptable}
use Rattle.peel.specs.Complete.{Complete}
use Rattle.peel.proofs.EveryLimit.{looked_up}
use Rattle.peel.proofs.Entries.{entry_drawn, entry_least, least_falls, stands_once, entries_fit, last_entry}

pub list_complete : {o : Office} → Acceptable o → Complete o
list_complete a = record {
  looks_up = looked_up a;
  draws = entry_drawn a;
  least = entry_least a;
  falls = least_falls a;
  last = last_entry a;
  once = stands_once a;
  fits = entries_fit a;
}
