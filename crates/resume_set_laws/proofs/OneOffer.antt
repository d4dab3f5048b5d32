-- One offer to a set's bytes: what is kept after it is a set, whose members are those before and the event's id, if it was answered "taken" or
-- "already there", one more than before if it was "taken"; and a refusal changes nothing.
use Prim.Native.Nat.{ℕ, ◌+◌}
use mathlib.Core.Path.{◌≡◌, refl, sym, ap, ◌∙◌}
use mathlib.Core.Bool.{Bool, true, false, ◌&&◌, ◌||◌, or-false, or-true}
use mathlib.Core.List.{List}
use mathlib.Core.Logic.{◌⊎◌, inl, inr}
use native.Mathlib.Omega.{arith}
use lib.Dec.{leb, eqb}
use lib.ListN.{length, take}
use lib.Seq.{take-append_seam}
use Rattle.std.specs.Prelude.{Ok, Err}
use Rattle.misc.specs.declared.refusal.Refusal.{Refusal}
use Rattle.misc.specs.declared.refusal.WriteError.TheVariants.{NoRoom}
use Rattle.misc.specs.Refusal.{not_a_set}
use Rattle.misc.specs.Parse.{Bytes, Parse, refuse, parsed}
use Rattle.misc.specs.Output.{bytes, refused, output_of}
use Rattle.misc.proofs.ParseLaws.{ok-err}
use Rattle.packets.specs.Key.{Key}
use Rattle.packets.specs.Kept.{padded}
use Rattle.packets.proofs.Tests.{split}
use Rattle.previous_gtids_event.specs.Entry.{Entry}
use Rattle.packets.specs.Tag.{none_or_tag}
use Rattle.previous_gtids_event.specs.Rewrite.{body_bytes}
use Rattle.gtid_event.specs.declared.GtidEvent.{GtidEvent}
use Rattle.gtid_event_read.specs.Read.{record_in, named}
use Rattle.gtid_event_read.proofs.PresentLaws.{named-record}
use Rattle.gtid_event_read.proofs.Ranges.{UntaggedRange, TaggedRange, gtid-range}
use Rattle.gtid_sets.specs.Set.{has}
use Rattle.gtid_sets.specs.Run as run
use Rattle.gtid_sets.specs.Run.{Event, anonymous, broken, names, Answer, no_id, already, taken, answer, is_taken, after, is_member, is_of}
use Rattle.gtid_sets.specs.Lent.{Lent, form, unfit, lent_set}
use Rattle.gtid_sets.specs.Saved.{GoodEvent}
use Rattle.gtid_sets.specs.Total.{total}
use Rattle.gtid_sets.proofs.KeyLaws.{good-key}
use Rattle.gtid_sets.proofs.LentLaws.{lent_is, lent_back}
use Rattle.gtid_sets.proofs.RunLaws.{has-after, form-after, limits-after}
use Rattle.gtid_sets.proofs.SavedLaws.{good-after}
use Rattle.gtid_sets.proofs.TotalLaws.{bit, after-total}
use Rattle.set_join.specs.Answers.{output_as}
use Rattle.resume_set.specs.Answers.{says, event_of, fitting, offered_as}
use Rattle.resume_set.specs.declared.Offered.{Offered}
use Rattle.resume_set.specs.declared.Offered.TheVariants.{NoId, AlreadyThere, Taken}
use Rattle.resume_set_laws.specs.History.{Ids, none, among, Outcome, accepted, kept_in, ids_in, Turn, id_of, offered_in, comes_to, takes, RefusalsKeep}
use Rattle.resume_set_laws.specs.Ours.{ours}
use Rattle.resume_set_laws.proofs.Starts.{front}
use Rattle.resume_set_laws.proofs.AnyRun.{Keeps}

-- ---- the event of a turn

abbrev pub said : Turn → Event
said t = event_of t.type t.body

-- the tag in a record's field
tag-kept : (t : List ℕ) → take (length t) (padded 32 t) ≡ t
unfolding padded
tag-kept t = take-append_seam t _

tag-good : (e : GtidEvent) → UntaggedRange e ⊎ TaggedRange e → (length e.sid ≡ 16) × (none_or_tag (take e.tag_len e.tag) ≡ true)
tag-good e (inl u) = (u.uuid, rw u.none)
tag-good e (inr t) = (t.uuid, rw (t.counted, t.kept, tag-kept t.tag, t.valid) (or-true (eqb (length t.tag) 0)))

-- it names no id, or one whose key is as keys are read
pub good-said : (type : ℕ) (body : List ℕ) → Bytes body → GoodEvent (event_of type body)
unfolding event_of
good-said type body ok = go (record_in (named type body)) refl
  where
    go : (p : Parse GtidEvent) → record_in (named type body) ≡ p → GoodEvent (says type p)
    go (refuse r) e = tt
    go (parsed event next) e = split (eqb type 34)
        (λ h. rw h tt)
        (λ h. let (l, g) = tag-good event (gtid-range type body ok (named-record type body e)) in rw h (good-key event.sid _ l g))

-- ---- what is kept

-- an output that has no room stays as it was
short : (out bs : List ℕ) → leb (length bs) (length out) ≡ false → output_of out (bytes bs) ≡ out
unfolding output_of
short out bs h = rw h

-- nor does a refusal change it
pub out-refused : (out : List ℕ) (r : Refusal) → output_of out (refused r) ≡ out
unfolding output_of
out-refused out r = refl

-- the ids of an event are the one that it names
pub among-id : (e : Event) (k : Key) (n : ℕ) → is_of e k n ≡ among (id_of e) k n
among-id anonymous k n = refl
among-id (broken r) k n = refl
among-id (names j m) k n = refl

-- what is kept after an offer is a set with the members that the outcome says, and has so many
pub record KeepsOne (set : List ℕ) (s : List Entry) (t : Turn) : Type 0 where
  pub keeps : Keeps (comes_to ours) set s t
  pub counted : total keeps.next ≡ total s + takes (ours.answers set t)

module _ (set : List ℕ) (s : List Entry) (t : Turn) (lent : lent_set set ≡ form s) (good : GoodEvent (said t)) where
  abbrev grown : List ℕ
  grown = body_bytes (after s (said t))

  grown-lent : lent_set grown ≡ form (after s (said t))
  grown-lent =
      let l = lent_is set s lent in
      lent_back (after s (said t)) (form-after s (said t) l.formed) (good-after s (said t) good l.keyed) (limits-after s (said t) l.limited)

  -- an answer that is no refusal: what is kept is the set after the event where that has room, and the set itself where it hasn't
  went : (case : ℕ → Offered) (ids : Ids) (a : Answer) → answer s (said t) ≡ a
      → ((size room : ℕ) → offered_as a size room ≡ fitting case size room) → ((bs : List ℕ) → output_as a bs ≡ bytes bs)
      → ((out : List ℕ) (len : ℕ) → offered_in (said t) out (Ok (case len)) ≡ accepted ids (take len out))
      → ((k : Key) (n : ℕ) → is_member a && is_of (said t) k n ≡ among ids k n)
      → ((len : ℕ) → takes (Ok (case len)) ≡ bit (is_taken a)) → KeepsOne set s t
  went case ids a e told writes comes those adds = split (leb (length grown) (length t.out))
      (λ h.
      let o : ours.answers set t ≡ Ok (case (length grown)) = rw (lent, e, told, h) in
      let w : ours.leaves set t ≡ output_of t.out (bytes grown) = rw (lent, e, writes) in
      let c : comes_to ours set t ≡ accepted ids grown =
      ap (offered_in (said t) (ours.leaves set t)) o ∙ comes (ours.leaves set t) (length grown)
      ∙ ap (λ (x : List ℕ). accepted ids (take (length grown) x)) w ∙ ap (accepted ids) (front t.out grown h) in
      record {
        keeps = record {
          next = after s (said t);
          lent = ap (λ (x : Outcome). lent_set (kept_in set x)) c ∙ grown-lent;
          members = λ i n.
              has-after s (said t) i n ∙ ap (λ (x : Answer). has s i n || (is_member x && is_of (said t) i n)) e ∙ ap (λ (x : Bool). has s i n || x) (those i n)
              ∙ sym (ap (λ (x : Outcome). has s i n || among (ids_in x) i n) c);
        };
        counted = after-total s (said t) (lent_is set s lent).formed ∙ rw (o, adds, e);
      })
      (λ h.
      let o : ours.answers set t ≡ fitting case (length grown) (length t.out) = rw (lent, e, told) in
      let k : ours.answers set t ≡ Err (NoRoom (length grown)) = o ∙ rw h in
      record {
        keeps = record { next = s; lent = rw k lent; members = λ i n. rw k (sym (or-false (has s i n))) };
        counted = rw k (omega arith);
      })

  pub one-offer : KeepsOne set s t
  one-offer = go (answer s (said t)) refl
    where
      go : (a : Answer) → answer s (said t) ≡ a → KeepsOne set s t
      go no_id e = went NoId none no_id e (λ n m. refl) (λ bs. refl) (λ o n. refl) (λ k n. refl) (λ n. refl)
      go already e = went AlreadyThere (id_of (said t)) already e (λ n m. refl) (λ bs. refl) (λ o n. refl) (among-id (said t)) (λ n. refl)
      go taken e = went Taken (id_of (said t)) taken e (λ n m. refl) (λ bs. refl) (λ o n. refl) (among-id (said t)) (λ n. refl)
      go (run.refused r) e = record {
        keeps = record { next = s; lent = rw (lent, e) lent; members = λ i n. rw (lent, e) (sym (or-false (has s i n))) };
        counted = rw (lent, e) (omega arith);
      }

-- ---- a refusal changes nothing

pub refusals-keep : RefusalsKeep ours
refusals-keep set t x h = (unchanged (lent_set set) refl, rw h)
  where
    -- a case that is no refusal is told where there is no room only
    no_room : (case : ℕ → Offered) (bs : List ℕ) → fitting case (length bs) (length t.out) ≡ Err x → output_of t.out (bytes bs) ≡ t.out
    no_room case bs e = split (leb (length bs) (length t.out))
        (λ room. absurd (ok-err (rw room at e)))
        (short t.out bs)

    told : (s : List Entry) (a : Answer) → answer s (said t) ≡ a → offered_as a (length (body_bytes (after s (said t)))) (length t.out) ≡ Err x
        → output_of t.out (output_as a (body_bytes (after s (said t)))) ≡ t.out
    told s no_id e o = no_room NoId _ o
    told s already e o = no_room AlreadyThere _ o
    told s taken e o = no_room Taken _ o
    told s (run.refused r) e o = out-refused t.out r

    unchanged : (l : Lent) → lent_set set ≡ l → ours.leaves set t ≡ t.out
    unchanged unfit e = rw e (out-refused t.out not_a_set)
    unchanged (form s) e =
        let o : offered_as (answer s (said t)) (length (body_bytes (after s (said t)))) (length t.out) ≡ Err x = rw e at h in
        rw e (told s (answer s (said t)) refl o)
