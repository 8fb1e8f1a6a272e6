-- `shape::writer::is_low_part` meets its contract.
use Rattle.std.proofs.Common.{rules, tests, ◌&&◌, true, ◌∙◌, nat_le}
use Rattle.std.proofs.lemmas.Iterator.{YieldsList-from_slice}
use Rattle.std.proofs.lemmas.Iterator.Consumers.{fold_from_yields_List}
use Rattle.laws.proofs.Find.{all_from_fold}
use Rattle.shape.proofs.writer.is_low_part.Goals as goal

pub returns : goal.returns
returns c = fold_from_yields_List _ (λ a g. a && nat_le g 16383) true _ c.fold.ensures.ran (YieldsList-from_slice c.args.x.now cc) (λ a x b q k. search (rules, tests)) ∙ all_from_fold (λ g. nat_le g 16383) c.args.x.now
