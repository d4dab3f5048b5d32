-- Laws of `set_of`: bytes that were written for a set in set form are that set, within the limits or not.
use Prim.Native.Nat.{ℕ, ◌^◌, ◌≤◌}
use mathlib.Core.Path.{◌≡◌, refl, sym, ap, ◌∙◌}
use mathlib.Core.Bool.{Bool}
use mathlib.Core.List.{List, ◌++◌}
use native.Mathlib.Omega.{arith}
use lib.ListN.{length, drop, length-append}
use lib.Seq.{drop_at}
use Rattle.std.specs.Prelude.{Result, Ok, Err, IsOk}
use Rattle.packets.proofs.Tests.{clash}
use Rattle.misc.specs.declared.refusal.Refusal.{Refusal}
use Rattle.misc.specs.Refusal.{not_a_set}
use Rattle.misc.proofs.ParseLaws.{ok-err}
use Rattle.previous_gtids_event.specs.Entry.{Entry}
use Rattle.previous_gtids_event.specs.Rewrite.{entries_bytes, any_tag, header_bytes, body_bytes}
use Rattle.previous_gtids_event.proofs.Writing.{length-header}
use Rattle.previous_gtids_event.proofs.RoundTrip.{rewritten-in}
use Rattle.gtid_sets.specs.Set.{SetForm}
use Rattle.gtid_sets.specs.Lent.{Lent, form, unfit, lent_set, GoodKeys, SetLaid}
use Rattle.gtid_sets.specs.Limits.{intervals, crowds}
use Rattle.gtid_sets.proofs.LimitLaws.{longest_set-is, limits-fair}
use Rattle.gtid_sets.proofs.ByteLaws.{body-least}
use Rattle.gtid_sets.proofs.LentLaws.{well-formed, lent_is, lent-short}
use Rattle.set_check.specs.Check.{checked_of}
use Rattle.set_check.specs.declared.Checked.{Checked}
use Rattle.set_check.specs.Places.{entries_at, EntriesIn}
use Rattle.set_check.proofs.EntryPlaces.{entries-stand}
use Rattle.set_check.specs.SetOf.{entries_of, set_of, IsSet, Fits}

pub set-of : (s : List Entry) → SetForm s → GoodKeys s → length (body_bytes s) ≤ 2 ^ 40 → set_of (body_bytes s) ≡ s
unfolding set_of
set-of s f g small = ap entries_of (rewritten-in s (well-formed s f g (omega (arith, body-least s g))) (omega arith))

pub set_is : (bs : List ℕ) (s : List Entry) → bs ≡ body_bytes s → SetForm s → GoodKeys s → length bs ≤ 2 ^ 40
    → IsSet bs (any_tag s) (length s) × (set_of bs ≡ s)
set_is bs s e f g small =
    let same : set_of bs ≡ s = ap set_of e ∙ set-of s f g (omega (arith, ap length e)) in (
      record {
        written = e ∙ ap body_bytes (sym same);
        formed = rw same f;
        keyed = rw same g;
        tags = ap any_tag same;
        count = ap length same;
        small = small;
      },
      same,
    )

-- the set that some bytes lend, which is within the limits
pub lent-set : (bs : List ℕ) (s : List Entry) → lent_set bs ≡ form s → IsSet bs (any_tag s) (length s) × (set_of bs ≡ s)
lent-set bs s h =
    let l : SetLaid bs s = lent_is bs s h in
    set_is bs s l.written l.formed l.keyed (omega (arith, lent-short bs s h, longest_set-is))

-- its entries stand after the header
pub set-bytes : (bs : List ℕ) (w : Bool) (n : ℕ) → IsSet bs w n → (8 ≤ length bs) × (drop 8 bs ≡ entries_bytes w (set_of bs))
unfolding body_bytes
set-bytes bs w n h =
    let s : List Entry = set_of bs in
    let e : bs ≡ header_bytes w (length s) ++ entries_bytes w s = h.written ∙ ap (λ (v : Bool). header_bytes v (length s) ++ entries_bytes v s) h.tags in (
      omega (arith, ap length e, length-append (header_bytes w (length s)) (entries_bytes w s), length-header w (length s)),
      ap (drop 8) e ∙ drop_at (header_bytes w (length s)) (entries_bytes w s) 8 (length-header w (length s)),
    )

-- they are those that are read from there on, one after another
pub set-stands : (bs : List ℕ) (w : Bool) (n : ℕ) → IsSet bs w n → (entries_at n w bs 8 ≡ set_of bs) × EntriesIn n w bs 8
set-stands bs w n h =
    rw (← h.count) (entries-stand bs w (set_of bs) 8 (set-bytes bs w n h).1 h.formed h.keyed (λ f. h.tags ∙ f) h.small)

-- ---- what the check told

pub check-told : (bs : List ℕ) {c : Checked} → Ok c ≡ checked_of (lent_set bs) → Fits bs c
check-told bs {c} e = go (lent_set bs) refl
  where
    go : (x : Lent) → lent_set bs ≡ x → Fits bs c
    go unfit p = absurd (ok-err (e ∙ ap checked_of p))
    go (form s) p =
        let told : ◌≡◌ {A = Result Checked Refusal} (Ok c) (checked_of (form s)) = e ∙ ap checked_of p in
        let t : c ≡ record { tagged = any_tag s; entries = length s; intervals = intervals s } = cc in
        let (is, same) = lent-set bs s p in
        record {
          set = rw (ap (λ (y : Checked). y.tagged) t, ap (λ (y : Checked). y.entries) t) is;
          total = ap intervals same ∙ sym (ap (λ (y : Checked). y.intervals) t);
          lent = p ∙ ap form (sym same);
        }

pub check-passed : (bs : List ℕ) (r : Result Checked Refusal) → r ≡ checked_of (lent_set bs) → IsOk r → lent_set bs ≡ form (set_of bs)
check-passed bs (Ok c) e ok = (check-told bs e).lent
check-passed bs (Err x) e ok = clash ok refl

-- no entry of a set that was checked has too many intervals
pub fits-fair : (bs : List ℕ) (c : Checked) → Fits bs c → crowds (set_of bs) ≡ 0
fits-fair bs c f = limits-fair (set_of bs) (lent_is bs (set_of bs) f.lent).limited

pub check-unfit : (bs : List ℕ) {x : Refusal} → Err x ≡ checked_of (lent_set bs) → (lent_set bs ≡ unfit) × (x ≡ not_a_set)
check-unfit bs {x} e = go (lent_set bs) refl
  where
    go : (l : Lent) → lent_set bs ≡ l → (lent_set bs ≡ unfit) × (x ≡ not_a_set)
    go unfit p =
        let told : ◌≡◌ {A = Result Checked Refusal} (Err x) (Err not_a_set) = e ∙ ap checked_of p in
        (p, cc)
    go (form s) p = absurd (ok-err (sym (e ∙ ap checked_of p)))
