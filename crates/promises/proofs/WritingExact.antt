-- What adding a tag, writing and measuring a record are refused for, exactly, and what is written.
use Prim.Native.Nat.{ℕ}
use mathlib.Core.Path.{◌≡◌, refl}
use mathlib.Core.Bool.{true, false}
use mathlib.Core.List.{List}
use native.Mathlib.Omega.{arith}
use Rattle.misc.specs.declared.refusal.Refusal.{Refusal}
use Rattle.misc.specs.Refusal.{number, not_writable}
use Rattle.misc.specs.Parse.{refusal_in}
use Rattle.misc.specs.Output.{refused, bytes}
use Rattle.packets.specs.Tag.{is_tag}
use Rattle.packets.proofs.Tests as tests
use Rattle.gtid_event.specs.Event.{with_tag, new_tagged}
use Rattle.gtid_event.specs.declared.GtidEvent.{GtidEvent}
use Rattle.gtid_event_write.specs.Writable.{writable}
use Rattle.gtid_event_write.specs.Write.{event_bytes, event_output, length_of}
use Rattle.promises.specs.PlainFaults.{TagFault, RecordFault}
use Rattle.promises.specs.Exact.{RefusesExactly}
use Rattle.promises.proofs.Forces.{WriterRefuses}
use Rattle.promises.proofs.Exactly.{judges-exactly}

pub tag-exact : (tag : List ℕ) (e : GtidEvent) → RefusesExactly (refusal_in (with_tag tag e)) (TagFault tag)
unfolding with_tag
tag-exact tag e = judges-exactly _ 6 (TagFault tag) (is_tag tag) (λ good. rw good) (λ bad. rw bad) TagFault.tag_rule only (λ zero. omega arith)
  where
    only : (n : ℕ) → TagFault tag n → (n ≡ 6) × (is_tag tag ≡ false)
    only n (TagFault.tag_rule bad) = (refl, bad)

pub new-exact : (sid tag : List ℕ) (gno : ℕ) → RefusesExactly (refusal_in (new_tagged sid tag gno)) (TagFault tag)
unfolding new_tagged
new-exact sid tag gno = tag-exact tag _

record-only : (e : GtidEvent) (n : ℕ) → RecordFault e n → (n ≡ 12) × (writable e ≡ false)
record-only e n (RecordFault.not_writable cannot) = (refl, cannot)

pub length-exact : (e : GtidEvent) → RefusesExactly (refusal_in (length_of e)) (RecordFault e)
unfolding length_of
length-exact e =
    judges-exactly _ 12 (RecordFault e) (writable e) (λ can. rw can) (λ cannot. rw cannot) RecordFault.not_writable (record-only e) (λ zero. omega arith)

-- writing: what is refused, and what is written
module _ (e : GtidEvent) where
  pub write-given : (r : Refusal) → event_output e ≡ refused r → RecordFault e (number r)
  unfolding event_output
  write-given r h = tests.split (writable e)
      (λ can. let two : bytes (event_bytes e) ≡ refused r = rw can at h in absurd (let z : ◌≡◌ {A = ℕ} 0 1 = cc in omega arith))
      (λ cannot.
      let two : refused not_writable ≡ refused r = rw cannot at h in
      let same : not_writable ≡ r = cc in
      rw (← same) (RecordFault.not_writable cannot))

  pub write-forced : (n : ℕ) → RecordFault e n → WriterRefuses (event_output e) n
  unfolding event_output
  write-forced n (RecordFault.not_writable cannot) = (not_writable, rw cannot, refl)

  pub write-writes : (bs : List ℕ) → event_output e ≡ bytes bs → (writable e ≡ true) × (bs ≡ event_bytes e)
  unfolding event_output
  write-writes bs h = tests.split (writable e)
      (λ can. let two : bytes (event_bytes e) ≡ bytes bs = rw can at h in (can, cc))
      (λ cannot. let two : refused not_writable ≡ bytes bs = rw cannot at h in absurd (let z : ◌≡◌ {A = ℕ} 0 1 = cc in omega arith))

  pub write-written : (bs : List ℕ) → (writable e ≡ true) × (bs ≡ event_bytes e) → event_output e ≡ bytes bs
  unfolding event_output
  write-written bs (can, is) = rw (can, is)
