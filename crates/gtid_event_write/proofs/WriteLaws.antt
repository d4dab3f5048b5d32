-- What the public calls give, by whether the record can be written and has a tag.
use mathlib.Core.Path.{◌≡◌}
use mathlib.Core.Bool.{true, false}
use mathlib.Core.List.{List}
use Prim.Native.Nat.{ℕ}
use lib.ListN.{length}
use Rattle.std.specs.Prelude.{Result, Ok, Err}
use Rattle.misc.specs.Refusal.{not_writable}
use Rattle.misc.specs.declared.refusal.WriteError.{WriteError}
use Rattle.misc.specs.declared.refusal.WriteError.TheVariants.{Refused}
use Rattle.misc.specs.Output.{bytes, output_of, answer_of}
use Rattle.misc.proofs.OutputLaws.{output-refused}
use Rattle.gtid_event.specs.Event.{tagged}
use Rattle.gtid_event.specs.declared.GtidEvent.{GtidEvent}
use Rattle.gtid_event_write.specs.Writable.{writable}
use Rattle.gtid_event_write.specs.Layout.{tagged_bytes, untagged_bytes}
use Rattle.gtid_event_write.specs.Write.{event_bytes, event_output, length_of}

module _ (e : GtidEvent) where
  pub bytes-tagged : tagged e ≡ true → tagged_bytes e ≡ event_bytes e
  unfolding event_bytes
  bytes-tagged h = rw h

  pub bytes-untagged : tagged e ≡ false → untagged_bytes e ≡ event_bytes e
  unfolding event_bytes
  bytes-untagged h = rw h

  module _ (able : writable e ≡ true) where
    -- what the layout's own writer gives
    pub write-able : (l : List ℕ) {l' bs : List ℕ} {r : Result ℕ WriteError} → bs ≡ event_bytes e → (r ≡ answer_of l (bytes bs)) × (l' ≡ output_of l (bytes bs))
        → (r ≡ answer_of l (event_output e)) × (l' ≡ output_of l (event_output e))
    unfolding event_output
    write-able l is wrote = rw (able, ← is) wrote

    pub length-able : (n : ℕ) → n ≡ length (event_bytes e) → Ok n ≡ length_of e
    unfolding length_of
    length-able n size = rw (able, ← size)

  module _ (unable : writable e ≡ false) where
    pub write-refused : (l : List ℕ) → (Err (Refused not_writable) ≡ answer_of l (event_output e)) × (l ≡ output_of l (event_output e))
    unfolding event_output
    write-refused l = rw unable (output-refused l not_writable)

    pub length-refused : Err not_writable ≡ length_of e
    unfolding length_of
    length-refused = rw unable
