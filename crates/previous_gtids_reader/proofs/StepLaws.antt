-- Laws of a step (`specs/Steps.antt`): the ways that it goes, and steps one after another.
use mathlib.Core.Path.{◌≡◌, refl, sym, ap, subst, ◌∙◌}
use mathlib.Core.List.{List}
use Prim.Native.Nat.{ℕ, zero, suc, ◌+◌, ◌-◌, ◌≤◌, ◌<◌}
use native.Mathlib.Omega.{arith}
use lib.ListN.{length}
use lib.Dec.{eqb}
use borrow.Author.Tests.{eq-eqb, ne_eqb}
use Rattle.std.specs.Prelude.{Option, None, Some, Result, Ok, Err}
use Rattle.std.specs.Borrow.{Bor}
use Rattle.misc.specs.Pick.{pick}
use Rattle.misc.specs.Refusal.{too_long, ended}
use Rattle.misc.specs.declared.refusal.Refusal.{Refusal}
use Rattle.misc.specs.Parse.{Parse, refuse, parsed, part}
use Rattle.misc.specs.Body.{of_body}
use Rattle.misc.specs.Le.{le_of, le_at}
use Rattle.misc.proofs.BodyLaws.{body-fits, body-too-long}
use Rattle.misc.proofs.LeLaws.{le-gone, le-here}
use Rattle.misc.proofs.ParseLaws.{split, ok-err, answered-ok, answered-err}
use Rattle.previous_gtids_event.specs.Entry.{Entry, entry}
use Rattle.previous_gtids_event.specs.Previous.{says_count, entry_at}
use Rattle.previous_gtids_event.specs.Answers.{header_told, header_read, entry_told, entry_read}
use Rattle.previous_gtids_event.specs.declared.HeaderRead.{HeaderRead}
use Rattle.previous_gtids_event.specs.declared.EntryRead.{EntryRead}
use Rattle.previous_gtids_event.proofs.Reading.{headed}
use Rattle.previous_gtids_reader.specs.declared.Cursor.{Cursor}
use Rattle.previous_gtids_reader.specs.declared.Step.{Step}
use Rattle.previous_gtids_reader.specs.declared.Reader.{Reader}
use Rattle.previous_gtids_reader.specs.declared.Asked.{Asked}
use Rattle.previous_gtids_reader.specs.Held.{reader_at, begun}
use Rattle.previous_gtids_reader.specs.Steps.{cursor_at, cursor_of, start_of, entry_step, stepped, headed_step, step_of, onwards, cursor_after}
use Rattle.previous_gtids_reader.specs.Steps.{asked_at, asked, step_from, step_after}

-- what the body's header says
abbrev pub says : List ℕ → Result HeaderRead Refusal
says s = header_read (of_body s (le_at 8 s 0))

module _ (s : List ℕ) where
  -- ---- from the answer for the header: where it is refused
  module _ {x : Refusal} (is : Err x ≡ says s) where
    -- the body's refusal
    headerless : of_body s (le_at 8 s 0) ≡ refuse x
    headerless = answered-err header_told (of_body s (le_at 8 s 0)) is

    pub start-refused : Err x ≡ start_of s
    unfolding start_of
    start-refused = sym (ap cursor_of headerless)

    pub step-unbegun : (c : Cursor) → Err x ≡ step_of s c
    unfolding step_of
    step-unbegun c = sym (ap (headed_step s c) headerless)

  -- ---- and where it was read
  module _ (r : HeaderRead) (is : Ok r ≡ says s) where
    header_was_read : (h : ℕ) × (next : ℕ) × (of_body s (le_at 8 s 0) ≡ parsed h next) × (r ≡ header_told h next)
    header_was_read = answered-ok header_told (of_body s (le_at 8 s 0)) is

    pub start-read : Ok (cursor_at r.entries 8) ≡ start_of s
    unfolding start_of
    start-read =
        let (h, next, e, told) = header_was_read in
        ap (λ (y : HeaderRead). Ok (cursor_at y.entries 8)) told ∙ sym (ap cursor_of e)

    module _ (c : Cursor) where
      step-begun : step_of s c ≡ pick (eqb c.left 0) (Ok None) (stepped c.left (entry_at r.tagged s c.at))
      unfolding step_of
      step-begun =
          let (h, next, e, told) = header_was_read in
          ap (headed_step s c) e
          ∙ sym (ap (λ (y : HeaderRead). pick (eqb c.left 0) (Ok None) (stepped c.left (entry_at y.tagged s c.at))) told)

      pub step_end : c.left ≡ 0 → step_of s c ≡ Ok None
      step_end none = step-begun ∙ rw (eq-eqb c.left 0 none)

      module _ (some : c.left ≡ 0 → ⊥) where
        pub step-there : (p : Parse Entry) → entry_at r.tagged s c.at ≡ p → step_of s c ≡ stepped c.left p
        step-there p e = step-begun ∙ rw (ne_eqb c.left 0 some, e)

        -- from the answer for the entry
        inside : of_body s (entry_at r.tagged s c.at) ≡ entry_at r.tagged s c.at
        inside = body-fits s (entry_at r.tagged s c.at) (headed s is).2

        pub step-refused : {x : Refusal} → Err x ≡ entry_read (of_body s (entry_at r.tagged s c.at)) → Err x ≡ step_of s c
        step-refused {x} told =
            let e = answered-err entry_told (entry_at r.tagged s c.at) (told ∙ ap entry_read inside) in
            sym (step-there (refuse x) e)

        pub step-read : (q : EntryRead) → Ok q ≡ entry_read (of_body s (entry_at r.tagged s c.at))
            → Ok (Some (record { entry = q; cursor = cursor_at (c.left - 1) q.next })) ≡ step_of s c
        step-read q told =
            let (a, next, e, are) = answered-ok entry_told (entry_at r.tagged s c.at) (told ∙ ap entry_read inside) in
            go a next e are
          where
            go : (a : Entry) (next : ℕ) → entry_at r.tagged s c.at ≡ parsed a next → q ≡ entry_told a next
                → Ok (Some (record { entry = q; cursor = cursor_at (c.left - 1) q.next })) ≡ step_of s c
            go (entry k is) next e are =
                ap (λ (y : EntryRead). Ok (Some (record { entry = y; cursor = cursor_at (c.left - 1) y.next }))) are
                ∙ sym (step-there (parsed (entry k is) next) e)

-- too long a body, or one whose header is cut off, is refused at once; any other has a start
module _ (s : List ℕ) where
  pub start-too-long : 65536 < length s → start_of s ≡ Err too_long
  unfolding start_of
  start-too-long h = ap cursor_of (body-too-long s (le_at 8 s 0) h)

  pub start-cut : length s < 8 → start_of s ≡ Err ended
  unfolding start_of
  start-cut h = ap cursor_of (body-fits s (le_at 8 s 0) (omega arith) ∙ le-gone 8 s 0 (omega arith))

  pub start-begun : 8 ≤ length s → length s ≤ 65536 → start_of s ≡ Ok (cursor_at (says_count (le_of (part s 0 8))) 8)
  unfolding start_of
  start-begun h k = ap cursor_of (body-fits s (le_at 8 s 0) k ∙ le-here 8 s 0 (omega arith))

-- the same refusal at every cursor, also at one that a caller made up
module _ (s : List ℕ) (c : Cursor) where
  pub step-too-long : 65536 < length s → step_of s c ≡ Err too_long
  unfolding step_of
  step-too-long h = ap (headed_step s c) (body-too-long s (le_at 8 s 0) h)

  pub step_cut : length s < 8 → step_of s c ≡ Err ended
  unfolding step_of
  step_cut h = ap (headed_step s c) (body-fits s (le_at 8 s 0) (omega arith) ∙ le-gone 8 s 0 (omega arith))

-- ---- every step hands out an entry, refuses, or is the end

-- the step at a cursor hands out an entry: the one that lies there, the whole of it
pub record Hands (s : List ℕ) (c : Cursor) (e : Entry) : Type 0 where
  pub header : HeaderRead
  pub says_so : Ok header ≡ says s
  pub next : ℕ
  pub whole : entry_at header.tagged s c.at ≡ parsed e next
  pub is : step_of s c ≡ Ok (Some (entry_step (c.left - 1) e next))

-- where a step's refusal comes from: the body's header, or the entry at the cursor's place
pub data Faulty (s : List ℕ) (c : Cursor) : Refusal → Type 0 where
  unheaded : (x : Refusal) → of_body s (le_at 8 s 0) ≡ refuse x → Faulty s c x
  unread : (header : HeaderRead) → Ok header ≡ says s → (x : Refusal) → entry_at header.tagged s c.at ≡ refuse x → Faulty s c x

-- what a step does: it hands out an entry, or refuses, which is for the body, or is the end
pub data Kind (s : List ℕ) (c : Cursor) : Type 0 where
  hands : (e : Entry) → Hands s c e → Kind s c
  refuses : (x : Refusal) → Faulty s c x → step_of s c ≡ Err x → Kind s c
  ends : step_of s c ≡ Ok None → Kind s c

pub step-kind : (s : List ℕ) (c : Cursor) → Kind s c
step-kind s c = go (says s) refl
  where
    read : (r : HeaderRead) → Ok r ≡ says s → (c.left ≡ 0 → ⊥) → (p : Parse Entry) → entry_at r.tagged s c.at ≡ p → Kind s c
    read r is some (refuse x) e = refuses x (unread r is x e) (step-there s r is c some (refuse x) e)
    read r is some (parsed a next) e =
        hands a (record { header = r; says_so = is; next = next; whole = e; is = step-there s r is c some (parsed a next) e })

    go : (answer : Result HeaderRead Refusal) → answer ≡ says s → Kind s c
    go (Err x) is = refuses x (unheaded x (headerless s is)) (sym (step-unbegun s is c))
    go (Ok r) is =
        split c.left 0
        (λ k. ends (step_end s r is c (omega arith)))
        (λ k. read r is (λ none. omega arith) (entry_at r.tagged s c.at) refl)

-- ---- steps one after another
module _ (s : List ℕ) where
  pub after_none : (c : Cursor) → cursor_after s 0 c ≡ c
  unfolding cursor_after
  after_none c = refl

  pub after_next : (n : ℕ) (c : Cursor) → cursor_after s (suc n) c ≡ cursor_after s n (onwards c (step_of s c))
  unfolding cursor_after
  after_next n c = refl

  -- a step that leaves the reader where it was does so however often it is asked again
  pub after-still : (c : Cursor) → onwards c (step_of s c) ≡ c → (n : ℕ) → cursor_after s n c ≡ c
  after-still c h zero = after_none c
  after-still c h (suc n) = after_next n c ∙ ap (cursor_after s n) h ∙ after-still c h n

  pub after_more : (n m : ℕ) (c : Cursor) → cursor_after s (n + m) c ≡ cursor_after s m (cursor_after s n c)
  after_more zero m c = let none : zero + m ≡ m = omega arith in rw (none, after_none c)
  after_more (suc n) m c =
      let one : suc n + m ≡ suc (n + m) = omega arith in
      rw (one, after_next (n + m) c, after_next n c) (after_more n m (onwards c (step_of s c)))

  pub step_after_lem : (n : ℕ) (c : Cursor) → start_of s ≡ Ok c → step_after s n ≡ asked s (cursor_after s n c)
  unfolding step_after
  step_after_lem n c begins = ap (step_from s n) begins

  -- a body that is refused at the start
  pub never-begun : (n : ℕ) {x : Refusal} → Err x ≡ start_of s → Err x ≡ step_after s n
  unfolding step_after
  never-begun n is = ap (step_from s n) is

  -- the step that is wanted lies n steps on from a cursor
  pub record Ahead (whole : Result Asked Refusal) (n : ℕ) (c : Cursor) : Type 0 where
    pub is : whole ≡ asked s (cursor_after s n c)

  pub ahead-start : (index : ℕ) (c : Cursor) → Ok c ≡ start_of s → Ahead (step_after s index) index c
  ahead-start index c begins = record { is = step_after_lem index c (sym begins) }

  module _ (whole : Result Asked Refusal) (n : ℕ) (c : Cursor) (far : Ahead whole n c) where
    pub ahead-turn : (m : ℕ) → n ≡ suc m → (r : Step) → Ok (Some r) ≡ step_of s c → Ahead whole m r.cursor
    ahead-turn m h r e =
        record {
          is =
              far.is ∙ ap (λ (k : ℕ). asked s (cursor_after s k c)) h ∙ ap (asked s) (after_next m c)
              ∙ ap (λ (y : Result (Option Step) Refusal). asked s (cursor_after s m (onwards c y))) (sym e);
        }

    -- a step that hands out nothing is the one that is wanted
    pub ahead-still : (r : Result (Option Step) Refusal) → r ≡ step_of s c → onwards c r ≡ c → asked_at c r ≡ whole
    ahead-still r e stays = ap (asked_at c) e ∙ sym (far.is ∙ ap (asked s) (after-still c (ap (onwards c) (sym e) ∙ stays) n))

    pub ahead_none : n ≡ 0 → (r : Result (Option Step) Refusal) → r ≡ step_of s c → asked_at c r ≡ whole
    ahead_none h r e = ap (asked_at c) e ∙ sym (far.is ∙ ap (λ (k : ℕ). asked s (cursor_after s k c)) h ∙ ap (asked s) (after_none c))

-- ---- a reader, from what `new` answers
module _ (body : Bor (List ℕ)) where
  pub begun-err : (p : Result Cursor Refusal) {x : Refusal} → Err x ≡ begun body p → Err x ≡ p
  begun-err (Ok c) e = absurd (ok-err (sym e))
  begun-err (Err y) e = cc

  begun-ok : (p : Result Cursor Refusal) {r : Reader} → Ok r ≡ begun body p → (c : Cursor) × (Ok c ≡ p) × (r ≡ reader_at body c)
  begun-ok (Ok c) e = (c, refl, cc)
  begun-ok (Err x) e = absurd (ok-err e)

  -- the step that is wanted lies ahead of it
  pub reader-start : (index : ℕ) {r : Reader} → Ok r ≡ begun body (start_of body.now) → Ahead r.body.now (step_after body.now index) index r.cursor
  reader-start index e =
      let (c, begins, is) = begun-ok (start_of body.now) e in
      subst (λ (y : Reader). Ahead y.body.now (step_after body.now index) index y.cursor) (sym is) (ahead-start body.now index c begins)

-- moved behind the entry that it handed out, it is one step nearer
pub reader-turn : (whole : Result Asked Refusal) (n m : ℕ) (r : Reader) {r' : Reader} {step : Step} → Ahead r.body.now whole n r.cursor
    → n ≡ suc m → Ok (Some step) ≡ step_of r.body.now r.cursor → r' ≡ reader_at r.body step.cursor → Ahead r'.body.now whole m r'.cursor
reader-turn whole n m r {r'} {step} far less e is =
    subst (λ (y : Reader). Ahead y.body.now whole m y.cursor) (sym is) (ahead-turn r.body.now whole n r.cursor far m less step e)
