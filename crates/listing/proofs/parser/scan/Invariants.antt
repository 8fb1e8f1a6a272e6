-- After some bytes the front of the list has the numbers of the words that have ended, and a word has begun. Assumes nothing.
use Rattle.listing.proofs.Scanning.{Scan}
use Rattle.listing.proofs.parser.scan.Given as goal

abbrev pub invariant-loop-b : goal.invariant-loop-b
invariant-loop-b l = Scan l.text l.all l.count l.word.digits l.word.value l.b-index
