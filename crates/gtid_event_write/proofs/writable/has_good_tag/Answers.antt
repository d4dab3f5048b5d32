-- `gtid_event_write::writable::has_good_tag` meets its contract.
use mathlib.Core.Path.{sym}
use lib.Seq.{length-take-le}
use borrow.Author.Tests.{le-leb, lt-leb}
use borrow.Author.Rules.{rules}
use Rattle.gtid_event_write.proofs.writable.has_good_tag.Goals as goal

pub returns-then-len-gt-MAX_TAG : goal.returns-then-len-gt-MAX_TAG
returns-then-len-gt-MAX_TAG c = simp (lt-leb _ _ c.if-len-gt-MAX_TAG.true)

pub slice_bounds-is_tag-end : goal.slice_bounds-is_tag-end
slice_bounds-is_tag-end c = sym (length-take-le _ _ (search rules))

pub returns : goal.returns
returns c = simp (le-leb _ _ c.if-len-gt-MAX_TAG.false) c.is_tag.ensures
