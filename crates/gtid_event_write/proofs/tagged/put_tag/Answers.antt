-- `gtid_event_write::tagged::put_tag` meets its contract.
use mathlib.Core.Path.{◌≡◌, sym}
use mathlib.Core.List.{List, ◌++◌, append_assoc}
use Prim.Native.Nat.{ℕ}
use lib.ListN.{length, take}
use lib.Seq.{length-take-le}
use borrow.Author.Rules.{rules}
use Rattle.misc.specs.Varlen.{varlen_bytes}
use Rattle.misc.proofs.PutLaws.{◌and◌, puts-fit}
use Rattle.gtid_event_write.proofs.PutLaws.{with-bytes}
use Rattle.gtid_event_write.proofs.tagged.put_tag.Goals as goal

-- an id, and bytes behind their number
sized : (n : ℕ) (t : List ℕ) → length t ≡ n → varlen_bytes 3 ++ (varlen_bytes (length t) ++ t) ≡ varlen_bytes 3 ++ varlen_bytes n ++ t
sized n t e = rw (e, append_assoc (varlen_bytes 3) (varlen_bytes n) t)

pub slice_bounds-sized-end : goal.slice_bounds-sized-end
slice_bounds-sized-end c = sym (length-take-le _ _ (search rules))

pub returns : goal.returns
returns c = with-bytes (sized c.args.tag_len (take c.args.tag_len c.args.tag) (length-take-le _ _ (search rules)))
    (c.put_id.ensures and puts-fit c.sized.ensures)
