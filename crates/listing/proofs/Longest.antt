-- How long a listed text is at most.
use mathlib.Core.Path.{◌≡◌, refl}
use mathlib.Core.List.{List, [], ◌∷◌, ◌++◌}
use Prim.Native.Nat.{ℕ, suc, ◌+◌, ◌-◌, ◌*◌, ◌≤◌}
use native.Mathlib.Omega.{arith}
use lib.ListN.{length, take, length-append}
use lib.Seq.{length-take-le}
use lib.Dec.{eqb}
use Rattle.misc.specs.Refusal.{number}
use Rattle.misc.specs.Parse.{Parse, refuse, parsed, Bytes}
use Rattle.packets.specs.Gno.{gno_top, Interval, interval}
use Rattle.packets.proofs.Tests.{split}
use Rattle.packets.proofs.GnoLaws.{gno_top-is}
use Rattle.previous_gtids_event.specs.Entry.{Entry, entry, uuid_of, tag_of}
use Rattle.previous_gtids_event.specs.Previous.{previous}
use Rattle.previous_gtids_event.specs.Rewrite.{body_bytes}
use Rattle.packets.proofs.TagLaws.{none-or-tag-short}
use Rattle.gtid_event.specs.declared.GtidEvent.{GtidEvent}
use Rattle.gtid_event_read.specs.Read.{record_in, named}
use Rattle.gtid_event_read.proofs.PresentLaws.{named-record}
use Rattle.gtid_sets.specs.Interval.{Gapped}
use Rattle.gtid_sets.specs.Set.{SetForm}
use Rattle.gtid_sets.specs.Limits.{max_entries, max_intervals, intervals, fine, limits}
use Rattle.gtid_sets.specs.Run.{names}
use Rattle.gtid_sets.specs.Lent.{GoodKeys}
use Rattle.gtid_sets.proofs.LimitLaws.{max_entries-is, max_intervals-is, limits-says}
use Rattle.gtid_sets.proofs.LentLaws.{lent_is}
use Rattle.set_join.specs.Answers.{taken_in}
use Rattle.resume_set.specs.Answers.{says, event_of}
use Rattle.gtid_event_read.proofs.NamedLaws.{KeyParts, key-parts}
use Rattle.text.specs.Intervals.{last_text}
use Rattle.text.proofs.DigitLaws.{decimal-most, decimal-short}
use Rattle.text.proofs.KeyTextLaws.{key-most}
use Rattle.text.proofs.LineLaws.{refused-most}
use Rattle.listing.specs.SetText.{intervals_text, entry_text, entries_text, set_text}
use Rattle.listing.specs.EventText.{previous_word, gtid_text, taken_text, event_text, listing, longest_text}
use Rattle.listing.proofs.EventTextLaws.{id-long, id-named}
use Rattle.listing.proofs.TakenTextLaws.{taken-cases, taken-text}

pub longest_text-is : longest_text ≡ 129322
unfolding longest_text max_entries max_intervals
longest_text-is = refl

-- ---- sets

-- two numbers below 10^19, a colon and a dash
last-most : (start end : ℕ) → end ≤ gno_top → length (last_text start end) ≤ 20
last-most start end h =
    split (eqb (start + 1) end)
    (λ t. rw t (omega arith))
    (λ t. rw t (omega (arith, decimal-short 19 (end - 1) (omega arith) (omega (arith, gno_top-is)))))

intervals-most : (low : ℕ) (is : List Interval) → Gapped low is → length (intervals_text is) ≤ length is * 40
unfolding intervals_text
intervals-most low [] g = omega arith
intervals-most low (interval start end ∷ is) g =
    let first = decimal-short 19 start (omega arith) (omega (arith, gno_top-is)) in
    let last = last-most start end g.2 in
    let rest = intervals-most end is g.3 in
    simp length-append (omega arith)

-- 69 for the key, 1 for the newline
entries-most : (s : List Entry) → GoodKeys s → SetForm s → length (entries_text s) ≤ length s * 70 + intervals s * 40
unfolding entries_text entry_text
entries-most [] g f = omega arith
entries-most (entry k is ∷ s) g f =
    let key = key-most (uuid_of k) (tag_of k) g.0.uuid (none-or-tag-short (tag_of k) g.0.rule) in
    let all = intervals-most 0 is f.1 in
    let rest = entries-most s g.1 f.3 in
    simp length-append (omega arith)

pub set-text-long : (word : List ℕ) (s : List Entry) → GoodKeys s → SetForm s → limits s ≡ fine
    → length (set_text word s) ≤ length word + 28 + max_entries * 70 + max_intervals * 40
unfolding set_text
set-text-long word s g f h =
    let (few, less) = limits-says s h in
    let most = max_entries-is in
    let total = max_intervals-is in
    let a = decimal-short 3 (length s) (omega arith) (omega arith) in
    let b = decimal-short 4 (intervals s) (omega arith) (omega arith) in
    let rest = entries-most s g f in
    simp length-append (omega arith)

-- ---- events

id-most : (e : GtidEvent) → KeyParts e → length (gtid_text (names (e.sid ++ take e.tag_len e.tag) e.gno)) ≤ 96
id-most e (u, n, t) =
    let tag = take e.tag_len e.tag in
    let few = length-take-le e.tag_len e.tag (omega arith) in
    rw (← id-named e u) (omega (arith, id-long e.sid tag e.gno, decimal-most e.gno, key-most e.sid tag u (omega arith)))

pub gtid-text-long : (type : ℕ) (body : List ℕ) → Bytes body → length (gtid_text (event_of type body)) ≤ 96
unfolding event_of
gtid-text-long type body ok = go (record_in (named type body)) refl
  where
    go : (p : Parse GtidEvent) → record_in (named type body) ≡ p → length (gtid_text (says type p)) ≤ 96
    go (refuse r) e = omega (arith, refused-most (number r))
    go (parsed v next) e =
        split (eqb type 34) (λ h. rw h (omega arith)) (λ h. rw h (id-most v (key-parts type body ok (named-record type body e))))

taken-text-long : (body : List ℕ) → length (taken_text (taken_in (previous body))) ≤ longest_text
taken-text-long body =
    taken-cases body (λ r e. rw e (omega (arith, refused-most (number r), longest_text-is)))
    (λ s e lent.
    let is = lent_is (body_bytes s) s lent in
    let most = set-text-long previous_word s is.keyed is.formed is.limited in
    rw (taken-text body s e lent) (omega (arith, max_entries-is, max_intervals-is, longest_text-is)))

event-text-long : (type : ℕ) (body : List ℕ) → Bytes body → length (event_text type body) ≤ longest_text
unfolding event_text
event-text-long type body ok =
    split (eqb type 35) (λ h. rw h (taken-text-long body)) (λ h. rw h (omega (arith, gtid-text-long type body ok, longest_text-is)))

pub longest_text_lem : (input : List ℕ) → Bytes input → length (listing input) ≤ longest_text
longest_text_lem [] ok = omega (arith, refused-most 1, longest_text-is)
longest_text_lem (type ∷ body) ok = event-text-long type body (λ i. ok (suc i))
