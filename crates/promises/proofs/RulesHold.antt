-- The statements of `specs/Rules.antt` hold.
use Prim.Native.Nat.{ℕ, ◌<◌, ◌≤◌}
use mathlib.Core.Path.{◌≡◌, refl, sym, ◌∙◌}
use mathlib.Core.List.{List, [], ◌∷◌, ◌++◌}
use native.Mathlib.Omega.{arith}
use borrow.Author.Tests.{le-leb, lt-ltb, eqb-true, eqb-false}
use lib.Dec.{eqb}
use lib.ListN.{length}
use Rattle.misc.proofs.BodyLaws.{body_limit-is}
use Rattle.packets.specs.Gno.{gno_top}
use Rattle.packets.specs.Key.{Key, ◌≺◌}
use Rattle.packets.proofs.Keys.{compare-lt, compare-eq, prefix_first}
use Rattle.packets.proofs.GnoLaws.{gno_top-is, gno-says, interval-says, interval-from}
use Rattle.gtid_event_write.proofs.TotalsReached.{totals}
use Rattle.packets.proofs.Tests.{split}
use Rattle.previous_gtids_event.specs.Entry.{Entry}
use Rattle.previous_gtids_event.specs.Rewrite.{body_bytes}
use Rattle.gtid_sets.specs.Set.{SetForm}
use Rattle.gtid_sets.specs.Limits.{intervals, crowds, EntryOver}
use Rattle.gtid_sets.specs.Lent.{form, unfit, GoodKeys, SetLaid}
use Rattle.gtid_sets.proofs.LimitLaws.{longest_set-is}
use Rattle.gtid_sets.proofs.LentLaws.{read_back, older-lent, older-unfit, lent_is, is-lent, lent-short}
use Rattle.listing.proofs.Longest.{longest_text-is, longest_text_lem}
use Rattle.promises.specs.Exact.{Exactly}
use Rattle.promises.specs.SetFaults.{SetFault}
use Rattle.promises.specs.Rules.{Rules}
use Rattle.promises.proofs.LimitsExact.{counts, counted, set_limits, entry_limit, other_limits}
use Rattle.promises.proofs.SetsExact.{apart, unfit-fault, fault-unfit}

byte_first : (p s t : Key) (x y : ℕ) → x < y → p ++ (x ∷ s) ≺ p ++ (y ∷ t)
byte_first [] s t x y h = rw (compare-lt x y h)
byte_first (z ∷ p) s t x y h = rw (compare-eq z z refl) (byte_first p s t x y h)

module _ (s : List Entry) (f : SetForm s) (g : GoodKeys s) (few : length s ≤ 256) (less : intervals s ≤ 2048) where
  fair : (EntryOver 1024 s → ⊥) → crowds s ≡ 0
  fair none = split (eqb (crowds s) 0) (eqb-true (crowds s) 0) (λ some. absurd (none (counted s (eqb-false (crowds s) 0 some))))

  saved_before : Exactly (SetLaid (body_bytes s) s) (EntryOver 1024 s → ⊥) × Exactly (SetFault (body_bytes s) 14) (EntryOver 1024 s)
  saved_before = (
    (λ laid. ((set_limits s).0 laid.limited).0, λ none. lent_is (body_bytes s) s (older-lent s f g few less (fair none))),
    (
      λ fault. split (eqb (crowds s) 0)
          (λ none. let lent = older-lent s f g few less (eqb-true (crowds s) 0 none) in
          let no : form s ≡ unfit = sym lent ∙ (fault-unfit (body_bytes s) 14 fault).1 in apart cc)
          (λ some. counted s (eqb-false (crowds s) 0 some)),
      λ over. unfit-fault (body_bytes s) (older-unfit s f g few less (counts s over)),
    ),
  )

pub rules : Rules
rules = record {
  byte_first = byte_first;
  prefix_first = λ p s x. prefix_first p x s;
  gno = λ n. (
    λ h. let (least, most) = gno-says n h in (least, omega (arith, gno_top-is)),
    λ (least, most). rw (le-leb 1 n least, lt-ltb n gno_top (omega (arith, gno_top-is))),
  );
  gnos = λ start end. (
    λ h. let (least, rises, most) = interval-says start end h in (least, rises, omega (arith, gno_top-is)),
    λ (least, rises, most). interval-from start end least rises (omega (arith, gno_top-is)),
  );
  gno_top_is = gno_top-is;
  set_limits = set_limits;
  entry_limit = entry_limit;
  other_limits = other_limits;
  longest_set_is = longest_set-is;
  longest_text_is = longest_text-is;
  texts = longest_text_lem;
  longest_body = body_limit-is;
  sets_are_bodies = λ set s laid. (
    lent-short set s (is-lent set s laid),
    rw laid.written (read_back s laid.formed laid.keyed laid.limited),
  );
  saved_before = saved_before;
  tagged_totals = totals;
}
