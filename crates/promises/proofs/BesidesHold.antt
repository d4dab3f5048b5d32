-- The statements of `specs/Besides.antt` hold.
use Prim.Native.Nat.{ℕ, ◌≤◌}
use mathlib.Core.Path.{◌≡◌, refl}
use mathlib.Core.Bool.{false, and-false}
use mathlib.Core.List.{List, []}
use mathlib.Core.Logic.{◌⊎◌, inl, inr}
use lib.Dec.{leb}
use lib.ListN.{length}
use borrow.Author.Tests.{le-leb, lt-leb, le-ltb}
use Rattle.misc.specs.declared.refusal.Refusal.{Refusal}
use Rattle.misc.specs.Refusal.{number, not_a_set}
use Rattle.misc.specs.Le.{le_bytes}
use Rattle.misc.specs.Output.{output_of, answer_of}
use Rattle.packets.specs.Gno.{gno_top, is_gno}
use Rattle.previous_gtids_event.specs.Entry.{Entry}
use Rattle.gtid_event.specs.Event.{with_tag, new_tagged}
use Rattle.gtid_event_write.specs.Write.{length_of}
use Rattle.gtid_sets.specs.Lent.{unfit, Lent, form}
use Rattle.abi.specs.Flat.{flat_identity, flat_clock, flat_rest, flat}
use Rattle.std.specs.Prelude.{Err}
use Rattle.promises.specs.Besides.{Zeros, Outputs}
use Rattle.abi.specs.Answers.{head_numbers}
use Rattle.two_sets.specs.Answers.{within_read, head_read, part_of}

pub no-gno : (n : ℕ) → (n ≡ 0) ⊎ (gno_top ≤ n) → is_gno n ≡ false
no-gno n (inl zero) = rw zero
no-gno n (inr over) = rw (le-ltb n gno_top over) (and-false (leb 1 n))

-- ---- what else a refusal answers, and what is left in an output

-- over two sets, whatever is lent: what a refusal answers besides its number
pub first-of-two : (second : Lent) → (within_read unfit second ≡ Err not_a_set) × (head_read unfit second ≡ Err not_a_set)
first-of-two second = (refl, refl)

pub second-of-two : (s : List Entry) → (within_read (form s) unfit ≡ Err not_a_set) × (head_read (form s) unfit ≡ Err not_a_set)
second-of-two s = (refl, refl)

pub no-head : (r : Refusal) (first second : List ℕ)
    → (part_of (Err r) first second ≡ []) × (head_numbers (Err r) ≡ record { refusal = number r; head = 0 })
no-head r first second = (refl, refl)

pub zeros : (r : Refusal) → Zeros r
unfolding output_of answer_of with_tag new_tagged length_of le_bytes flat_identity flat_clock flat_rest flat
zeros r =
    record {
      no_event_is = refl;
      uint = refl;
      int = refl;
      event = refl;
      previous_gtids = refl;
      header = refl;
      entry = refl;
      interval = refl;
      start = refl;
      step_header = λ s c. refl;
      step_entry = λ left. refl;
      event_rest = λ s. refl;
      previous_rest = λ s. refl;
      checked = refl;
      set = refl;
      asked = λ uuid tag gno. refl;
      step = λ tag e bad. rw bad;
      new = λ sid tag gno bad. rw bad;
      sized = λ e bad. rw bad;
      wrote = λ out. refl;
      untouched = λ out. refl;
      numbers = λ told. refl;
      no_len = refl;
    }

pub outputs : (bs out : List ℕ) → Outputs bs out
unfolding output_of answer_of
outputs bs out = record {
  short = λ over. rw (lt-leb (length bs) (length out) over);
  fits = λ room. rw (le-leb (length bs) (length out) room) (refl, refl);
}
