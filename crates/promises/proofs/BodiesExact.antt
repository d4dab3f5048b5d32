-- The statements of `specs/Exact.antt` for Previous-GTIDs bodies.
use Prim.Native.Nat.{ℕ, ◌+◌, ◌*◌, ◌<◌}
use mathlib.Core.Path.{◌≡◌, refl, sym, subst, ◌∙◌}
use mathlib.Core.Bool.{Bool}
use mathlib.Core.List.{List, [], ◌++◌}
use native.Mathlib.Omega.{arith}
use lib.Dec.{eqb, leb}
use lib.ListN.{length, drop, length-append, length-drop}
use borrow.Author.Tests.{leb-true, leb-false, le-leb, lt-leb, eqb-false, ne_eqb}
use Rattle.misc.specs.Pick.{pick}
use Rattle.misc.specs.declared.refusal.Refusal.{Refusal}
use Rattle.misc.specs.Refusal.{number, ended, too_long}
use Rattle.misc.specs.Parse.{Bytes, Parse, refuse, parsed, and_then, refusal_of}
use Rattle.misc.specs.Body.{body_limit, of_body}
use Rattle.misc.specs.Le.{le_at}
use Rattle.misc.specs.Output.{refused, bytes}
use Rattle.misc.proofs.ParseLaws.{split, bytes-gone}
use Rattle.misc.proofs.Bounds.{front_bytes}
use Rattle.misc.proofs.LeLaws.{le-here, le-gone}
use Rattle.packets.specs.Gno.{interval}
use Rattle.previous_gtids_event.specs.Entry.{Entry, entry}
use Rattle.previous_gtids_event.specs.Previous.{key_at, head_at, interval_at, entry_at, says_tagged, previous}
use Rattle.previous_gtids_event.specs.Rewrite.{body_bytes, rewritten}
use Rattle.previous_gtids_event.proofs.Laying.{header-reads}
use Rattle.previous_gtids_event.proofs.Accepting.{header-found}
use Rattle.promises.specs.BodyFaults.{EntryFault, BodyFault}
use Rattle.promises.specs.PlainFaults.{FixedFault, OfBody, HeadedFault}
use Rattle.promises.specs.SetFaults.{RewrittenAs}
use Rattle.promises.specs.Exact.{RefusesExactly, BodiesExact}
use Rattle.promises.proofs.Gives.{Gives, refuse-gives, parsed-gives, pick_gives, mapped-gives, le-gives, then-le-gives}
use Rattle.promises.proofs.Forces.{Refuses, WriterRefuses, is-refused, same-refused}
use Rattle.promises.proofs.Exactly.{reads-exactly, answers-exactly, writes-exactly}
use Rattle.promises.proofs.IntegersExact.{fixed-given, fixed-forced}
use Rattle.promises.proofs.BodyFaults.{entry-fault, body-faults}
use Rattle.promises.proofs.BodyForced.{entry-forced, body-forced}
use Rattle.promises.proofs.SetsExact.{apart, body_is, body-read}

-- ---- a part of a body

module _ {A : Type 0} (body : List ℕ) (p : Parse A) (Fault : ℕ → Type 0) where
  of-body-given : Gives Fault p → Gives (OfBody body Fault) (of_body body p)
  of-body-given gives =
      pick_gives (OfBody body Fault) (leb (length body) body_limit) p (refuse too_long)
      (λ short r e. OfBody.in_part (leb-true (length body) body_limit short) (gives r e))
      (λ long. refuse-gives (OfBody body Fault) too_long (OfBody.too_long (leb-false (length body) body_limit long)))

  of-body-forced : ((n : ℕ) → Fault n → Refuses p n) → (n : ℕ) → OfBody body Fault n → Refuses (of_body body p) n
  of-body-forced forced n (OfBody.too_long long) = is-refused too_long (rw (lt-leb (length body) body_limit long))
  of-body-forced forced n (OfBody.in_part short fault) = same-refused (forced n fault) (λ r e. rw (le-leb (length body) body_limit short) e)

  pub of-body-exact : Gives Fault p → ((n : ℕ) → Fault n → Refuses p n) → RefusesExactly (refusal_of (of_body body p)) (OfBody body Fault)
  of-body-exact gives forced = reads-exactly (OfBody body Fault) (of_body body p) (of-body-given gives) (of-body-forced forced)

-- an interval is 16 bytes
module _ (s : List ℕ) (at : ℕ) where
  interval-given : Gives (FixedFault 16 (drop at s)) (interval_at s at)
  unfolding interval_at
  interval-given =
      then-le-gives (FixedFault 16 (drop at s)) s 8 at _ (λ over. FixedFault.cut (rw length-drop (omega arith))) (λ start _.
      mapped-gives (FixedFault 16 (drop at s)) (interval start) (le_at 8 s (at + 8))
      (le-gives (FixedFault 16 (drop at s)) s 8 (at + 8) (λ over. FixedFault.cut (rw length-drop (omega arith)))))

  interval-forced : (n : ℕ) → FixedFault 16 (drop at s) n → Refuses (interval_at s at) n
  unfolding interval_at
  interval-forced n (FixedFault.cut few) = split (at + 8) (length s)
      (λ there. is-refused ended (rw (le-here 8 s at there, le-gone 8 s (at + 8) (omega (arith, length-drop at s)))))
      (λ gone. is-refused ended (rw (le-gone 8 s at gone)))

-- fewer than 16 bytes have no tag
few-cut : (tagged : Bool) (l : List ℕ) (n : ℕ) → length l < 16 → EntryFault tagged l n → n ≡ 1
few-cut tagged l n few (EntryFault.cut_uuid _) = refl
few-cut tagged l n few (EntryFault.cut_tag_length uuid sixteen cut) = refl
few-cut tagged l n few (EntryFault.cut_tag uuid rest sixteen form over) = refl
few-cut tagged l n few (EntryFault.cut_count uuid rest sixteen tag_is over) = refl
few-cut tagged l n few (EntryFault.cut_intervals uuid rest sixteen tag_is count-is over) = refl
few-cut tagged l n few (EntryFault.tag_rule uuid t {size = size} rest sixteen form bad) = absurd (omega (arith, length-append uuid (size ++ (t ++ rest))))

-- an entry at a place; a place behind the end is like the end
module _ (s : List ℕ) (tagged : Bool) (at : ℕ) where
  entry_past : length s < at → entry_at tagged s at ≡ refuse ended
  unfolding entry_at head_at key_at
  entry_past past = rw (bytes-gone 16 s at (omega arith))

  pub entry-given : Bytes s → Gives (EntryFault tagged (drop at s)) (entry_at tagged s at)
  entry-given are = split at (length s) (λ inside. entry-fault s are tagged at inside) (λ past r e.
      refuse-gives (EntryFault tagged (drop at s)) ended (EntryFault.cut_uuid (rw length-drop (omega arith))) r (sym (entry_past past) ∙ e))

  pub entry-place-forced : (n : ℕ) → EntryFault tagged (drop at s) n → Refuses (entry_at tagged s at) n
  entry-place-forced n fault = split at (length s)
      (λ inside. entry-forced s tagged at (drop at s) n fault (record { is = refl; inside = inside }))
      (λ past.
      let none : length (drop at s) < 16 = rw length-drop (omega arith) in
      (ended, entry_past past, sym (few-cut tagged (drop at s) n none fault)))

-- ---- an entry as the header says

-- as it is read
abbrev pub headed : ℕ → List ℕ → ℕ → Parse Entry
headed left s at = and_then (le_at 8 s 0) (λ header next. pick (eqb left 0) (parsed (entry [] []) 0) (entry_at (says_tagged header) s at))

module _ (left : ℕ) (s : List ℕ) (at : ℕ) (are : Bytes s) where
  headed-given : Gives (HeadedFault left at s) (headed left s at)
  headed-given = then-le-gives (HeadedFault left at s) s 8 0 _ HeadedFault.cut_header (λ h read.
      pick_gives (HeadedFault left at s) (eqb left 0) _ _
      (λ none. parsed-gives (HeadedFault left at s) (entry [] []) 0)
      (λ some r e.
      let header = header-found s are h read in
      HeadedFault.in_entry (drop 8 s) header.is header.holds (eqb-false left 0 some) (entry-given s (says_tagged h) at are r e)))

  headed-forced : (n : ℕ) → HeadedFault left at s n → Refuses (headed left s at) n
  headed-forced n (HeadedFault.cut_header few) = is-refused ended (rw (le-gone 8 s 0 few))
  headed-forced n (HeadedFault.in_entry {tagged = tagged} {header = header} rest whole says some fault) =
      let (h, read, is, _, _) =
      header-reads s header rest says (front_bytes header rest (subst Bytes whole are)) (record { is = whole; inside = omega arith }) in
      same-refused (entry-place-forced s tagged at n fault) (λ r e. rw (read, ne_eqb left 0 some, is, e))

  pub headed-exact : RefusesExactly (refusal_of (of_body s (headed left s at))) (OfBody s (HeadedFault left at s))
  headed-exact = of-body-exact s (headed left s at) (HeadedFault left at s) headed-given headed-forced

-- ---- a whole body

module _ (body : List ℕ) (are : Bytes body) where
  body-given : Gives (BodyFault body) (previous body)
  body-given r e = body-faults body are r e

  rewrite-given : (r : Refusal) → rewritten (previous body) ≡ refused r → BodyFault body (number r)
  rewrite-given r = go (previous body) refl
    where
      go : (p : Parse (List Entry)) → previous body ≡ p → rewritten p ≡ refused r → BodyFault body (number r)
      go (refuse x) read e = let same : x ≡ r = cc in body-given r (rw same at read)
      go (parsed es used) read e = apart cc

  rewrite-forced : (n : ℕ) → BodyFault body n → WriterRefuses (rewritten (previous body)) n
  rewrite-forced n fault = let (r, e, is) = body-forced body are n fault in (r, rw e, is)

  rewrite-writes : (bs : List ℕ) → rewritten (previous body) ≡ bytes bs → RewrittenAs body bs
  rewrite-writes bs = go (previous body) refl
    where
      go : (p : Parse (List Entry)) → previous body ≡ p → rewritten p ≡ bytes bs → RewrittenAs body bs
      go (refuse x) read e = apart cc
      go (parsed es used) read e = let these : body_bytes es ≡ bs = cc in rw (← these) (RewrittenAs.entries (body_is body are read))

  rewrite-written : (bs : List ℕ) → RewrittenAs body bs → rewritten (previous body) ≡ bytes bs
  rewrite-written bs (RewrittenAs.entries is) = let (used, read) = body-read body are is in rw read

pub bodies-exact : BodiesExact
bodies-exact = record {
  read = λ body are. answers-exactly _ _ _ (reads-exactly (BodyFault body) (previous body) (body-given body are) (body-forced body are));
  header_of = λ body. answers-exactly _ _ _ (of-body-exact body (le_at 8 body 0) (FixedFault 8 body) (fixed-given 8 (omega arith) body 0)
      (fixed-forced 8 (omega arith) body 0));
  entry_at = λ body at tagged are. answers-exactly _ _ _ (of-body-exact body (entry_at tagged body at) (EntryFault tagged (drop at body))
      (entry-given body tagged at are) (entry-place-forced body tagged at));
  interval_at = λ body first index. answers-exactly _ _ _ (of-body-exact body (interval_at body (first + 16 * index))
      (FixedFault 16 (drop (first + 16 * index) body)) (interval-given body (first + 16 * index)) (interval-forced body (first + 16 * index)));
  rewrite = λ body out are. writes-exactly (rewritten (previous body)) out (BodyFault body) (RewrittenAs body) (rewrite-given body are)
      (rewrite-forced body are)
      (rewrite-writes body are) (rewrite-written body are);
}
