-- What joining a body to a set is refused for, and what it gives: the cases of `specs/Files.antt`, both ways.
use Prim.Native.Nat.{ℕ, ◌≤◌}
use mathlib.Core.Path.{◌≡◌, refl, sym, ap, ◌∙◌}
use mathlib.Core.Bool.{true, or_comm}
use mathlib.Core.List.{List}
use native.Mathlib.Omega.{arith}
use lib.Dec.{leb}
use lib.ListN.{length}
use borrow.Author.Tests.{leb-true, leb-false, le-leb, lt-leb}
use Rattle.misc.specs.declared.refusal.Refusal.{Refusal}
use Rattle.misc.specs.Refusal.{number, not_a_set, bad_gno, full, crowded}
use Rattle.misc.specs.Parse.{Bytes, Parse, refuse, parsed}
use Rattle.misc.specs.Output.{Output, refused, bytes, answer_of}
use Rattle.misc.proofs.ParseLaws.{split, pick-either, no_zero}
use Rattle.previous_gtids_event.specs.Entry.{Entry}
use Rattle.previous_gtids_event.specs.Previous.{previous}
use Rattle.previous_gtids_event.specs.Rewrite.{body_bytes}
use Rattle.gtid_sets.specs.Set.{has, SetForm}
use Rattle.gtid_sets.specs.TakeIn.{lawful, union}
use Rattle.gtid_sets.specs.Limits.{Judged, fine, breaks, limits}
use Rattle.gtid_sets.specs.Lent.{Lent, form, unfit, lent_set, SetLaid}
use Rattle.gtid_sets.specs.Combine as ops
use Rattle.gtid_sets.proofs.FormLaws.{lawful-holds}
use Rattle.gtid_sets.proofs.TakeInLaws.{has-union, form-union, is_union}
use Rattle.gtid_sets.proofs.LentLaws.{lent_is, is-lent}
use Rattle.set_join.specs.Answers.{saved_if}
use Rattle.set_join.specs.JoinIn.{joined_in, join_answers}
use Rattle.binlog.specs.Stop.{Stop, stop, stop_number, stop_for, no_room}
use Rattle.binlog.specs.Run.{did, fails}
use Rattle.binlog.proofs.PhaseLaws.{renumber}
use Rattle.binlog_reader.specs.Does.{fitted, joins}
use Rattle.binlog_reader.specs.declared.Told.{Told}
use Rattle.binlog_reader.specs.declared.Told.TheVariants.{Joined}
use Rattle.promises.specs.PlainFaults.{ShortFault}
use Rattle.promises.specs.SetFaults.{BodyIs}
use Rattle.promises.specs.Exact.{Exactly, WritesExactly}
use Rattle.promises.specs.TwoSets.{Keeps}
use Rattle.promises.specs.Files.{JoinFault, JoinedAs}
use Rattle.promises.proofs.LimitsExact.{entry_limit, limits-refuse}
use Rattle.promises.proofs.Exactly.{Answers, short-exactly}
use Rattle.promises.proofs.BodyFaults.{body-faults}
use Rattle.promises.proofs.BodyForced.{body-forced}
use Rattle.promises.proofs.SetsExact.{apart, unfit-fault, fault-unfit, body_is, body-read}

-- where a reader stops with one number, it stops alike
pub same_stop : (x y : Stop) → stop_number x ≡ stop_number y → x ≡ y
same_stop (stop m) (stop n) e = ap stop (omega arith)

-- a refusal of the table is told by its number
pub stop-number : (r : Refusal) → stop_number (stop_for r) ≡ number r
stop-number r = renumber (number r) (split (number r) 0 (λ none. absurd (no_zero r (omega arith))) (λ some. some))

-- bytes that there is no room for
short-fails : (room : ℕ) (t : Told) (bs : List ℕ) (r : Stop) (n len : ℕ) → ShortFault bs room n len → stop_number r ≡ n → fitted room t bs ≡ fails r len
short-fails room t bs r n len (ShortFault.short over) this =
    let same : no_room ≡ r = same_stop no_room r (sym this) in
    rw (lt-leb (length bs) room over, same)

-- ---- joining

-- the set with a body's ids has the ids in either, and there is no other
keeps-union : (s es : List Entry) → SetForm s → lawful es ≡ true → Keeps ops.either s es (union es s)
keeps-union s es f good = record {
  formed = form-union es s (lawful-holds es good) f;
  members = λ k n. has-union es s k n ∙ or_comm (has es k n) (has s k n);
}

keeps-one : (s es u : List Entry) → SetForm s → lawful es ≡ true → Keeps ops.either s es u → u ≡ union es s
keeps-one s es u f good k =
    is_union es s u (lawful-holds es good) f k.formed (λ key n. k.members key n ∙ or_comm (has s key n) (has es key n))

-- what was joined, if there is room for these bytes
record Kept (set body bs : List ℕ) : Type 0 where
  s : List Entry
  es : List Entry
  u : List Entry
  laid : SetLaid set s
  is : BodyIs body es
  good : lawful es ≡ true
  keeps : Keeps ops.either s es u
  within : limits u ≡ fine
  wrote : body_bytes u ≡ bs

module _ (set body : List ℕ) (are : Bytes body) where
  -- ---- what joining comes to has its case

  join-given : (room : ℕ) (r : Refusal) → joined_in (lent_set set) (previous body) ≡ refused r → JoinFault set body room (number r) 0
  join-given room r = go (lent_set set) (previous body) refl refl
    where
      judged : (s es : List Entry) → SetLaid set s → BodyIs body es → lawful es ≡ true → (j : Judged) → limits (union es s) ≡ j
          → saved_if j (body_bytes (union es s)) ≡ refused r → JoinFault set body room (number r) 0
      judged s es laid is good fine told e = apart cc
      judged s es laid is good (breaks x) told e =
          let same : x ≡ r = cc in
          let keeps = keeps-union s es laid.formed good in
          limits-refuse (union es s) (rw same at told)
          (λ over this. rw this (JoinFault.crowded_entry laid is good keeps over))
          (λ over this. rw this (JoinFault.over_limits laid is good keeps over))

      go : (l : Lent) (p : Parse (List Entry)) → lent_set set ≡ l → previous body ≡ p → joined_in l p ≡ refused r → JoinFault set body room (number r) 0
      go unfit p lent read e = let same : not_a_set ≡ r = cc in rw (← same) (JoinFault.bad_set (unfit-fault set lent))
      go (form s) (refuse x) lent read e =
          let same : x ≡ r = cc in
          JoinFault.bad_body (lent_is set s lent) (body-faults body are r (rw same at read))
      go (form s) (parsed es used) lent read e = pick-either (lawful es) e
          (λ good f. judged s es (lent_is set s lent) (body_is body are read) good (limits (union es s)) refl f)
          (λ bad f. let same : r ≡ bad_gno = cc in rw same (JoinFault.gno_rule (lent_is set s lent) (body_is body are read) bad))

  join_kept : (bs : List ℕ) → joined_in (lent_set set) (previous body) ≡ bytes bs → Kept set body bs
  join_kept bs = go (lent_set set) (previous body) refl refl
    where
      judged : (s es : List Entry) → SetLaid set s → BodyIs body es → lawful es ≡ true → (j : Judged) → limits (union es s) ≡ j
          → saved_if j (body_bytes (union es s)) ≡ bytes bs → Kept set body bs
      judged s es laid is good fine told e = record {
        s = s;
        es = es;
        u = union es s;
        laid = laid;
        is = is;
        good = good;
        keeps = keeps-union s es laid.formed good;
        within = told;
        wrote = cc;
      }
      judged s es laid is good (breaks x) told e = apart cc

      go : (l : Lent) (p : Parse (List Entry)) → lent_set set ≡ l → previous body ≡ p → joined_in l p ≡ bytes bs → Kept set body bs
      go unfit p lent read e = apart cc
      go (form s) (refuse x) lent read e = apart cc
      go (form s) (parsed es used) lent read e = pick-either (lawful es) e
          (λ good f. judged s es (lent_is set s lent) (body_is body are read) good (limits (union es s)) refl f)
          (λ bad f. apart cc)

  short-case : (room : ℕ) (bs : List ℕ) (n len : ℕ) → Kept set body bs → ShortFault bs room n len → JoinFault set body room n len
  short-case room bs n len k lacks = JoinFault.no_room k.laid k.is k.good k.keeps k.within (rw (← k.wrote) at lacks)

  -- ---- and a case forces it

  kept-told : (s es u : List Entry) → SetLaid set s → BodyIs body es → lawful es ≡ true → Keeps ops.either s es u → limits u ≡ fine
      → joined_in (lent_set set) (previous body) ≡ bytes (body_bytes u)
  kept-told s es u laid is good keeps within =
      let (used, read) = body-read body are is in
      let same_set = keeps-one s es u laid.formed good keeps in
      let judged : limits (union es s) ≡ fine = rw same_set at within in
      rw (is-lent set s laid, read, good, judged, same_set)

  broken-told : (s es u : List Entry) (r : Refusal) → SetLaid set s → BodyIs body es → lawful es ≡ true → Keeps ops.either s es u → limits u ≡ breaks r
      → joined_in (lent_set set) (previous body) ≡ refused r
  broken-told s es u r laid is good keeps over =
      let (used, read) = body-read body are is in
      let same_set = keeps-one s es u laid.formed good keeps in
      let judged : limits (union es s) ≡ breaks r = rw same_set at over in
      rw (is-lent set s laid, read, good, judged)

  join-forced : {P : Type 0} (room n len : ℕ) → JoinFault set body room n len
      → ((r : Refusal) → joined_in (lent_set set) (previous body) ≡ refused r → number r ≡ n → 0 ≡ len → P)
      → ((bs : List ℕ) → joined_in (lent_set set) (previous body) ≡ bytes bs → ShortFault bs room n len → P) → P
  join-forced room n len (JoinFault.bad_set fault) bad long =
      let (this, lent) = fault-unfit set n fault in
      bad not_a_set (rw lent) (sym this) refl
  join-forced room n len (JoinFault.bad_body {s = s} laid fault) bad long =
      let (r, e, is) = body-forced body are n fault in
      bad r (rw (is-lent set s laid, e)) is refl
  join-forced room n len (JoinFault.gno_rule {s = s} laid is unlawful) bad long =
      let (used, read) = body-read body are is in
      bad bad_gno (rw (is-lent set s laid, read, unlawful)) refl refl
  join-forced room n len (JoinFault.crowded_entry {s = s} {es = es} {u = u} laid is good keeps over) bad long =
      bad crowded (broken-told s es u crowded laid is good keeps ((entry_limit u).1 over)) refl refl
  join-forced room n len (JoinFault.over_limits {s = s} {es = es} {u = u} laid is good keeps over) bad long =
      bad full (broken-told s es u full laid is good keeps over) refl refl
  join-forced room n len (JoinFault.no_room {s = s} {es = es} {u = u} laid is good keeps within lacks) bad long =
      long (body_bytes u) (kept-told s es u laid is good keeps within) lacks

  -- ---- so it is of `join_in`

  pub join-writes : (out : List ℕ) → WritesExactly (join_answers set body out) (JoinFault set body (length out))
  unfolding answer_of
  join-writes out n len = (go (joined_in (lent_set set) (previous body)) refl, forced)
    where
      go : (o : Output) → joined_in (lent_set set) (previous body) ≡ o → Answers (answer_of out o) n len → JoinFault set body (length out) n len
      go (refused r) e (is, long, _) = rw (← is, ← long) (join-given (length out) r e)
      go (bytes bs) e told = short-case (length out) bs n len (join_kept bs e) ((short-exactly bs out n len).0 told)

      forced : JoinFault set body (length out) n len → Answers (join_answers set body out) n len
      forced fault = join-forced (length out) n len fault
          (λ r e this none. rw e (this, none, λ zero. no_zero r (this ∙ zero)))
          (λ bs e lacks. rw e ((short-exactly bs out n len).1 lacks))

  -- ---- and of an event

  pub joins-refused : (room : ℕ) (r : Stop) (len : ℕ)
      → Exactly (joins room (joined_in (lent_set set) (previous body)) ≡ fails r len) (JoinFault set body room (stop_number r) len)
  joins-refused room r len = (go (joined_in (lent_set set) (previous body)) refl, forced)
    where
      go : (o : Output) → joined_in (lent_set set) (previous body) ≡ o → joins room o ≡ fails r len → JoinFault set body room (stop_number r) len
      go (refused x) e h =
          let same : stop_for x ≡ r = cc in
          let none : 0 ≡ len = cc in
          rw (← none, ← same, stop-number x) (join-given room x e)
      go (bytes bs) e h = pick-either (leb (length bs) room) h
          (λ fits f. apart cc)
          (λ over f.
          let same : no_room ≡ r = cc in
          let needed : length bs ≡ len = cc in
          rw (← same, ← needed) (short-case room bs 13 (length bs) (join_kept bs e) (ShortFault.short (leb-false _ _ over))))

      forced : JoinFault set body room (stop_number r) len → joins room (joined_in (lent_set set) (previous body)) ≡ fails r len
      forced fault = join-forced room (stop_number r) len fault
          (λ x e this none. rw (e, same_stop (stop_for x) r (stop-number x ∙ this), none))
          (λ bs e lacks. rw e (short-fails room Joined bs r (stop_number r) len lacks refl))

  pub joins-did : (room : ℕ) (after : List ℕ) → Exactly (joins room (joined_in (lent_set set) (previous body)) ≡ did Joined after) (JoinedAs set body room after)
  joins-did room after = (go (joined_in (lent_set set) (previous body)) refl, forced after)
    where
      go : (o : Output) → joined_in (lent_set set) (previous body) ≡ o → joins room o ≡ did Joined after → JoinedAs set body room after
      go (refused x) e h = apart cc
      go (bytes bs) e h = pick-either (leb (length bs) room) h
          (λ fits f.
          let k = join_kept bs e in
          let same : body_bytes k.u ≡ after = let this : bs ≡ after = cc in k.wrote ∙ this in
          let less : length (body_bytes k.u) ≤ room = rw k.wrote (leb-true _ _ fits) in
          rw (← same) (JoinedAs.joined k.laid k.is k.good k.keeps k.within less))
          (λ over f. apart cc)

      forced : (after : List ℕ) → JoinedAs set body room after → joins room (joined_in (lent_set set) (previous body)) ≡ did Joined after
      forced after (JoinedAs.joined {s = s} {es = es} {u = u} laid is good keeps within less) =
          rw (kept-told s es u laid is good keeps within, le-leb _ _ less)
