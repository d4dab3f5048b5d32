-- Laws of joining a body to a set that is lent.
use Prim.Native.Nat.{ℕ, ◌+◌, ◌-◌, ◌/◌, ◌^◌, ◌≤◌}
use mathlib.Core.Path.{◌≡◌, refl, sym, ap, ◌∙◌}
use mathlib.Core.Bool.{true, false}
use mathlib.Core.List.{List, [], ◌∷◌}
use native.Mathlib.Omega.{arith}
use lib.ListN.{length, take, drop}
use lib.Seq.{take_at}
use borrow.Author.Tests.{le-leb}
use Rattle.misc.specs.Pick.{pick}
use Rattle.std.specs.Prelude.{Result, Err}
use Rattle.misc.specs.declared.refusal.Refusal.{Refusal}
use Rattle.misc.specs.declared.refusal.WriteError.{WriteError}
use Rattle.misc.specs.declared.refusal.WriteError.TheVariants.{Refused}
use Rattle.misc.specs.Refusal.{not_a_set, bad_gno}
use Rattle.misc.specs.Parse.{refusal_of}
use Rattle.misc.specs.Output.{refused, bytes, output_of, answer_of}
use Rattle.misc.proofs.ParseLaws.{was-parsed, answered-err}
use Rattle.misc.proofs.OutputLaws.{output-refused}
use Rattle.previous_gtids_event.specs.Entry.{Entry}
use Rattle.previous_gtids_event.specs.Rewrite.{any_tag}
use Rattle.previous_gtids_event.specs.Previous.{previous}
use Rattle.previous_gtids_event.specs.Answers.{previous_read}
use Rattle.previous_gtids_event.proofs.Reading.{previous-parts}
use Rattle.gtid_sets.specs.TakeIn.{lawful, union}
use Rattle.gtid_sets.specs.Limits.{longest_set, intervals}
use Rattle.gtid_sets.specs.Lent.{form, unfit, lent_set}
use Rattle.gtid_sets.proofs.ByteLaws.{entries-long}
use Rattle.gtid_sets.proofs.LimitLaws.{max_entries-is, max_intervals-is, longest_set-is, limits-says, limits-from}
use Rattle.gtid_sets.proofs.LentLaws.{lent_is, is-lent, empty-bytes}
use Rattle.set_check.specs.declared.Checked.{Checked}
use Rattle.set_check.specs.SetOf.{set_of, entries_of, IsSet, Fits}
use Rattle.set_check.proofs.SetOfLaws.{set_is, fits-fair}
use Rattle.set_join.proofs.RoomLaws.{body-widest, widest-empty}
use Rattle.set_join.specs.Answers.{saved}
use Rattle.set_join.specs.Find.{Counted, lent_as}
use Rattle.set_join.specs.JoinIn.{joined_in, join_answers, join_leaves}
use Rattle.set_join.specs.TakeIn.{HeldIs, held_set, widest, Room}

-- ---- a checked set at the front of a work buffer

module _ (set : List ℕ) (c : Checked) (f : Fits set c) where
  -- with tags it has no more bytes than the longest set
  set-widest : widest (set_of set) ≤ longest_set
  unfolding widest
  set-widest =
      let l = lent_is set (set_of set) f.lent in
      omega (arith, entries-long true (set_of set) l.keyed, limits-says (set_of set) l.limited, max_entries-is, max_intervals-is, longest_set-is)

  -- so much is room for any set and any body
  pub room-any : (body : List ℕ) → refusal_of (previous body) ≡ 0 → widest (set_of set) + (length body - 8 + length body / 24) ≤ 131122
  room-any body z =
      let (es, next, e) = was-parsed (previous body) z in
      let (header, l, p, least, most) = previous-parts body es next e in
      omega (arith, set-widest, longest_set-is)

  counted : Counted (set_of set) (lent_as c (length set))
  counted = record { count = sym f.set.count; total = sym f.total; crowd = sym (fits-fair set c f) }

  module _ (body zeros held : List ℕ) (room : widest (set_of set) + (length body - 8 + length body / 24) ≤ length zeros)
      (copied : held ≡ output_of zeros (bytes set)) (same : length held ≡ length zeros) where
    short : length set ≤ length zeros
    short = omega (arith, ap length f.set.written, body-widest (set_of set))

    stands : take (length set) held ≡ set
    unfolding output_of
    stands = rw (copied, le-leb (length set) (length zeros) short) (take_at set (drop (length set) zeros) (length set) refl)

    pub into-set : held_set held (lent_as c (length set)) ≡ set_of set
    into-set = ap set_of stands

    pub into-starts : (spare : List ℕ) → length spare ≡ length zeros → length zeros ≤ 2 ^ 40
        → HeldIs held (lent_as c (length set)) × Room held spare (widest (held_set held (lent_as c (length set))) + (length body - 8 + length body / 24))
    into-starts spare alike small = (
      record { set = rw stands f.set; counted = rw into-set counted; inside = omega (arith, short) },
      record { wide = omega (arith, ap widest into-set); alike = omega arith; small = omega arith },
    )

-- ---- the empty set

abbrev pub zeros : List ℕ
zeros = 0 ∷ 0 ∷ 0 ∷ 0 ∷ 0 ∷ 0 ∷ 0 ∷ 0 ∷ []

empty-is : IsSet zeros false 0 × (set_of zeros ≡ [])
unfolding any_tag
empty-is = set_is zeros [] (sym empty-bytes) tt tt (omega arith)

pub empty-set : set_of zeros ≡ []
empty-set = empty-is.1

pub empty-fits : Fits zeros (record { tagged = false; entries = 0; intervals = 0 })
empty-fits = record {
  set = empty-is.0;
  total = ap intervals empty-set;
  lent = is-lent zeros [] (record { written = sym empty-bytes; formed = tt; keyed = tt; limited = limits-from [] refl (omega arith) (omega arith) })
      ∙ ap form (sym empty-set);
}

-- room for any body beside it
pub empty-room : (body : List ℕ) → refusal_of (previous body) ≡ 0 → widest (set_of zeros) + (length body - 8 + length body / 24) ≤ 68266
empty-room body z =
    let (es, next, e) = was-parsed (previous body) z in
    let (header, l, p, least, most) = previous-parts body es next e in
    omega (arith, ap widest empty-set, widest-empty)

-- ---- `join_in`

-- this is answered and left, where the set, the body and the output are lent
abbrev Joined : List ℕ → List ℕ → List ℕ → Result ℕ WriteError → List ℕ → Type 0
Joined set body out w d = (w ≡ join_answers set body out) × (d ≡ join_leaves set body out)

pub join-unfit : (set body out : List ℕ) (x : Refusal) → (lent_set set ≡ unfit) × (x ≡ not_a_set) → Joined set body out (Err (Refused x)) out
join-unfit set body out x (e, told) = rw (e, told) (output-refused out not_a_set)

module _ (set : List ℕ) (s : List Entry) (lent : lent_set set ≡ form s) (body out : List ℕ) where
  pub join-refused : {x : Refusal} → Err x ≡ previous_read (previous body) → Joined set body out (Err (Refused x)) out
  join-refused {x} told = rw (lent, answered-err _ (previous body) told) (output-refused out x)

  module _ (z : refusal_of (previous body) ≡ 0) where
    judged : joined_in (lent_set set) (previous body)
        ≡ pick (lawful (entries_of (previous body))) (saved (union (entries_of (previous body)) s)) (refused bad_gno)
    judged = let (es, next, e) = was-parsed (previous body) z in rw (lent, e)

    pub join-unlawful : lawful (entries_of (previous body)) ≡ false → Joined set body out (Err (Refused bad_gno)) out
    join-unlawful h = rw (judged, h) (output-refused out bad_gno)

    pub join-merged : (d : List ℕ) (w : Result ℕ WriteError) → lawful (entries_of (previous body)) ≡ true
        → w ≡ answer_of out (saved (union (entries_of (previous body)) s)) → d ≡ output_of out (saved (union (entries_of (previous body)) s))
        → Joined set body out w d
    join-merged d w h p q = rw (judged, h) (p, q)
