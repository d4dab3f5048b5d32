-- Joining the intervals of a body to a set in a work buffer: what `join_interval` leaves there, and the loops above it.
use Prim.Native.Nat.{ℕ, suc, ◌+◌, ◌-◌, ◌*◌, ◌/◌, ◌^◌, ◌≤◌, ◌<◌}
use mathlib.Core.Path.{◌≡◌, refl, sym, ap, ◌∙◌}
use mathlib.Core.Bool.{Bool, true}
use mathlib.Core.List.{List, ◌∷◌, ◌++◌}
use native.Mathlib.Omega.{arith}
use borrow.Author.Tests.{le-leb}
use lib.ListN.{length, take, drop, length-take}
use lib.Seq.{take_at}
use Rattle.std.specs.Prelude.{Ok}
use Rattle.misc.specs.Parse.{refusal_of, many}
use Rattle.misc.specs.Body.{of_body}
use Rattle.misc.specs.Le.{le_at, number_at}
use Rattle.misc.specs.Output.{bytes, output_of, WhereFits}
use Rattle.misc.proofs.Walk.{many-none}
use Rattle.misc.proofs.OutputLaws.{output-fits}
use Rattle.packets.specs.Gno.{Interval, interval, is_interval}
use Rattle.packets.specs.Key.{Key}
use Rattle.packets.proofs.GnoLaws.{interval-says}
use Rattle.packets.proofs.Tests.{and-true}
use Rattle.previous_gtids_event.specs.Entry.{Entry}
use Rattle.packets.specs.Tag.{none_or_tag}
use Rattle.previous_gtids_event.specs.Previous.{GoodKey, entry_at, previous}
use Rattle.previous_gtids_event.specs.Answers.{entry_read, header_read}
use Rattle.previous_gtids_event.specs.Rewrite.{any_tag, body_bytes}
use Rattle.previous_gtids_event.specs.declared.EntryRead.{EntryRead}
use Rattle.previous_gtids_event.specs.declared.HeaderRead.{HeaderRead}
use Rattle.previous_gtids_event.proofs.Reading.{headed}
use Rattle.gtid_sets.specs.Set.{SetForm, join}
use Rattle.gtid_sets.specs.Limits.{over}
use Rattle.gtid_sets.specs.TakeIn.{proper, lawful, join_all, union}
use Rattle.gtid_sets.specs.Lent.{GoodKeys}
use Rattle.gtid_sets.proofs.FormLaws.{proper-holds}
use Rattle.gtid_sets.proofs.KeyLaws.{good-key}
use Rattle.gtid_sets.proofs.SetLaws.{form-join}
use Rattle.gtid_sets.proofs.LentLaws.{good-join}
use Rattle.set_intervals.specs.Intervals.{intervals_at}
use Rattle.set_intervals.proofs.Standing.{intervals-more}
use Rattle.set_check.specs.SetOf.{entries_of}
use Rattle.set_join.specs.Find.{Counted}
use Rattle.set_join.specs.Join.{PlanIs, plan_runs}
use Rattle.set_join.specs.TakeIn.{held_set, HeldIs, key_in, EntryIs, widest, enough, Room}
use Rattle.set_join.specs.declared.Held.{Held}
use Rattle.set_join.specs.declared.Plan.{Plan}
use Rattle.set_check.proofs.SetOfLaws.{set_is}
use Rattle.set_join.proofs.RoomLaws.{enough-now, enough-next, enough-all, enough-most}
use Rattle.set_join.proofs.EntryLaws.{ReadEntry, NextEntry, entry_next}

-- ---- a set at the front of a buffer

held-as : (bs : List ℕ) (s : List Entry) (h : Held) → take h.len bs ≡ body_bytes s → SetForm s → GoodKeys s → h.len ≤ 2 ^ 40
    → h.len ≡ length (body_bytes s) → h.tagged ≡ any_tag s → Counted s h
    → HeldIs bs h × (held_set bs h ≡ s)
held-as bs s h stands f g small len tags counted =
    let size : length (take h.len bs) ≡ h.len = ap length stands ∙ sym len in
    let told = set_is (take h.len bs) s stands f g (omega arith) in (
      record {
        set = rw (tags, counted.count) told.0;
        counted = rw told.1 counted;
        inside = omega (arith, sym (length-take h.len bs) ∙ size);
      },
      told.1,
    )

-- ---- one interval

-- what was written stands at the front
output-front : (l bs : List ℕ) → length bs ≤ length l → take (length bs) (output_of l (bytes bs)) ≡ bs
unfolding output_of
output-front l bs h = rw (le-leb (length bs) (length l) h) (take_at bs (drop (length bs) l) (length bs) refl)

module _ (held spare : List ℕ) (is : Held) (u t : List ℕ) (a b : ℕ) (h : HeldIs held is) (uuid : length u ≡ 16) (rule : none_or_tag t ≡ true)
    (room : Room held spare (enough (u ++ t) (held_set held is) 1)) (plan : Plan) (planned : PlanIs (take is.len held) u t a b plan) where
  pub plan-fits : plan.len ≤ length held
  plan-fits =
      omega (arith, planned.len_is, enough-now (u ++ t) a b (held_set held is) h.set.formed (good-key u t uuid rule), room.wide)

  pub interval-joined : is_interval (interval a b) ≡ true
      → (spare' : List ℕ) (n : ℕ) → WhereFits spare 0 (plan_runs (take is.len held) u t plan) spare' n
      → (held' : List ℕ) → held' ≡ output_of held (bytes (take plan.len spare'))
      → (was then : ℕ) → was ≡ over plan.found.own.count → then ≡ over plan.held
      → let r : Held = record
      { tagged = plan.tags; entries = plan.entries; intervals = plan.intervals; crowded = is.crowded - was + then; len = plan.len } in
      HeldIs held' r × (held_set held' r ≡ join (u ++ t) a b (held_set held is))
  interval-joined gnos spare' n put held' copied was then p q =
      let s = join (u ++ t) a b (held_set held is) in
      let good = good-key u t uuid rule in
      let gno = interval-says a b gnos in
      let fits = plan-fits in
      let len = planned.len_is in
      let same = room.alike in
      let whole : plan_runs (take is.len held) u t plan ≡ body_bytes s = sym planned.bytes in
      let put' : WhereFits spare 0 (body_bytes s) spare' n = rw whole at put in
      let ready : take plan.len spare' ≡ body_bytes s =
      rw len (ap (take (length (body_bytes s))) (output-fits (omega arith) (put'.placed (omega arith))).1 ∙ output-front spare (body_bytes s) (omega arith)) in
      let stands : take plan.len held' ≡ body_bytes s =
      rw (copied, ready, len) (output-front held (body_bytes s) (omega arith)) in
      held-as held' s _ stands (form-join (u ++ t) a b (held_set held is) gno.0 gno.1 gno.2 h.set.formed)
      (good-join (u ++ t) a b (held_set held is) good h.set.keyed) (omega (arith, room.small)) len planned.tags_is
      (record {
        count = planned.entries_is;
        total = planned.intervals_is;
        crowd = omega (arith, h.counted.crowd, planned.crowd_was, planned.crowd_is);
      })

-- ---- the intervals of an entry

-- some are joined already: those that are left give what is wanted, and there is room for them
pub record Joining (body : List ℕ) (k : Key) (wanted : List Entry) (held : List ℕ) (set : Held) (at left : ℕ) : Type 0 where
  pub held-is : HeldIs held set
  pub to-do : wanted ≡ join_all k (intervals_at left body at) (held_set held set)
  pub lawful : proper (intervals_at left body at) ≡ true
  pub room : enough k (held_set held set) left ≤ length held
  pub inside : at + 16 * left ≤ length body

enough-one : (k : Key) (s : List Entry) (n : ℕ) → 0 < n → enough k s 1 ≤ enough k s n
unfolding enough
enough-one k s n h = omega arith

module _ (body : List ℕ) (k : Key) (wanted : List Entry) (held : List ℕ) (set : Held) (at left : ℕ) (j : Joining body k wanted held set at left) where
  pub joining-room : 0 < left → (spare : List ℕ) → length spare ≡ length held → length held ≤ 2 ^ 40 → Room held spare (enough k (held_set held set) 1)
  joining-room some spare alike small =
      record { wide = omega (arith, enough-one k (held_set held set) left some, j.room); alike = alike; small = small }

  module _ (some : 0 < left) (a b : ℕ) (p : a ≡ number_at body at) (q : b ≡ number_at body (at + 8)) where
    next-interval : intervals_at left body at ≡ interval a b ∷ intervals_at (left - 1) body (at + 16)
    next-interval = intervals-more body at left some ∙ rw (p, q)

    judged : (is_interval (interval a b) ≡ true) × (proper (intervals_at (left - 1) body (at + 16)) ≡ true)
    judged = and-true (is_interval (interval a b)) _ (rw next-interval at j.lawful)

    pub joining-next : is_interval (interval a b) ≡ true
    joining-next = judged.0

    pub joining-turn : GoodKey k → (held' : List ℕ) (set' : Held) → length held' ≡ length held → HeldIs held' set'
        → held_set held' set' ≡ join k a b (held_set held set) → Joining body k wanted held' set' (at + 16) (left - 1)
    joining-turn good held' set' same is joined =
        let more : left ≡ suc (left - 1) = omega arith in
        let enough' : enough k (held_set held set) (suc (left - 1)) ≤ length held = rw more at j.room in
        record {
          held-is = is;
          to-do = j.to-do ∙ rw (next-interval, joined);
          lawful = judged.1;
          room = rw (joined, same) (omega (arith, enough-next k a b (held_set held set) j.held-is.set.formed good (left - 1)));
          inside = omega (arith, j.inside);
        }

-- ---- the entries of a body

-- some are joined already: those that are left give what is wanted, and the set has grown by no more than they take up in the body,
-- but for a byte for each
pub record Folding (body : List ℕ) (tagged : Bool) (start : ℕ) (wanted : List Entry) (held : List ℕ) (set : Held) (left at : ℕ) : Type 0 where
  pub held-is : HeldIs held set
  pub whole : refusal_of (many (entry_at tagged body) left at) ≡ 0
  pub rule : lawful (entries_of (many (entry_at tagged body) left at)) ≡ true
  pub to-do : wanted ≡ union (entries_of (many (entry_at tagged body) left at)) (held_set held set)
  pub grown : 24 * widest (held_set held set) ≤ 24 * start + 25 * (at - 8)
  pub place : 8 ≤ at
  pub small : length body ≤ 65536

-- none yet
pub folding-none : (body : List ℕ) {r : HeaderRead} → Ok r ≡ header_read (of_body body (le_at 8 body 0)) → refusal_of (previous body) ≡ 0
    → lawful (entries_of (previous body)) ≡ true → (held : List ℕ) (is : Held) → HeldIs held is → (left : ℕ) → left ≡ r.entries
    → Folding body r.tagged (widest (held_set held is)) (union (entries_of (previous body)) (held_set held is)) held is left 8
folding-none body told z h held is held-is left same =
    let (all, room, small) = headed body told in
    rw same (record {
      held-is = held-is;
      whole = rw all at z;
      rule = rw all at h;
      to-do = rw all;
      grown = omega arith;
      place = omega arith;
      small = small;
    })

module _ (body : List ℕ) (at : ℕ) (e : EntryRead) (k : Key) (is : List Interval) (r : ReadEntry body at e k is e.next) (s : List Entry) where
  -- what is enough for an entry, as it is read
  read-enough : enough (key_in e) s e.intervals ≡ enough k s (length is)
  read-enough = ap (λ (j : Key). enough j s e.intervals) r.key ∙ ap (enough k s) r.count

  -- an entry has 24 bytes at least, so that a byte more for it is at most a 24th
  grows : (start : ℕ) → 24 * widest s ≤ 24 * start + 25 * (at - 8) → 8 ≤ at → 24 * enough k s (length is) ≤ 24 * start + 25 * (e.next - 8)
  grows start grown place = omega (arith, enough-most k s (length is), r.size)

module _ (body : List ℕ) (tagged : Bool) (start : ℕ) (wanted : List Entry) (held : List ℕ) (set : Held) (left at : ℕ)
    (f : Folding body tagged start wanted held set left at) where
  pub folding-all : left ≡ 0 → held_set held set ≡ wanted
  folding-all h = sym (f.to-do ∙ rw (h, many-none (entry_at tagged body) at))

  module _ (some : 0 < left) {e : EntryRead} (told : Ok e ≡ entry_read (of_body body (entry_at tagged body at))) where
    next : NextEntry tagged body at left e
    next = entry_next tagged body at left f.small some f.whole told

    judged-next : (proper next.list ≡ true) × (lawful (entries_of (many (entry_at tagged body) (left - 1) e.next)) ≡ true)
    judged-next = and-true (proper next.list) _ (rw next.first at f.rule)

    pub folding-next : EntryIs body e
    folding-next = next.read.whole judged-next.0

    grown-next : 24 * enough next.key (held_set held set) (length next.list) ≤ 24 * start + 25 * (e.next - 8)
    grown-next = grows body at e next.key next.list next.read (held_set held set) start f.grown f.place

    pub folding-room : (spare : List ℕ) → start + (length body - 8 + length body / 24) ≤ length held → length spare ≡ length held → length held ≤ 2 ^ 40
        → Room held spare (enough (key_in e) (held_set held set) e.intervals)
    folding-room spare wide alike small =
        let same = read-enough body at e next.key next.list next.read (held_set held set) in
        record { wide = omega (arith, same, grown-next, next.read.inside); alike = alike; small = small }

    pub folding-turn : (held' : List ℕ) (set' : Held) → HeldIs held' set'
        → held_set held' set' ≡ join_all (key_in e) (intervals_at e.intervals body e.first) (held_set held set)
        → Folding body tagged start wanted held' set' (left - 1) e.next
    folding-turn held' set' is joined =
        let n = next in
        let after : held_set held' set' ≡ join_all n.key n.list (held_set held set) =
        joined ∙ ap (λ (k : Key). join_all k (intervals_at e.intervals body e.first) (held_set held set)) n.read.key
        ∙ ap (λ (l : List Interval). join_all n.key l (held_set held set)) n.read.list in
        let most = enough-all n.key n.list (held_set held set) f.held-is.set.formed n.read.good (proper-holds n.list judged-next.0) in
        record {
          held-is = is;
          whole = n.rest;
          rule = judged-next.1;
          to-do = f.to-do ∙ rw (n.first, after);
          grown = omega (arith, ap widest after, most, grown-next);
          place = omega (arith, f.place, n.read.size);
          small = f.small;
        }
