-- Laws of the text of events: what is written whole, and which text it is.
use mathlib.Core.Path.{◌≡◌, sym, ap}
use mathlib.Core.List.{List, [], ◌∷◌, ◌++◌}
use Prim.Native.Nat.{ℕ, ◌+◌, ◌≤◌}
use native.Mathlib.Omega.{arith}
use lib.ListN.{length, take, length-append}
use borrow.Author.Tests.{eq-eqb, ne_eqb}
use Rattle.std.specs.Prelude.{Result, Ok, Err}
use Rattle.misc.specs.Parse.{Parse, Bytes}
use Rattle.misc.specs.Output.{Output, bytes, output_of, answer_of}
use Rattle.misc.specs.Put.{PutsWhereFits}
use Rattle.misc.specs.declared.put.Put.{Put}
use Rattle.misc.specs.Refusal.{number}
use Rattle.misc.specs.declared.refusal.Refusal.{Refusal}
use Rattle.misc.specs.declared.refusal.WriteError.{WriteError}
use Rattle.misc.proofs.PutLaws.{◌and◌}
use Rattle.misc.proofs.OutputLaws.{output-fits}
use Rattle.previous_gtids_event.specs.Previous.{previous}
use Rattle.previous_gtids_event.proofs.Reading.{uuid-of, tag-of}
use Rattle.gtid_event.specs.declared.GtidEvent.{GtidEvent}
use Rattle.gtid_event_read.specs.Read.{named, gtid_read}
use Rattle.gtid_event_read.specs.declared.GtidRead.{GtidRead}
use Rattle.gtid_sets.specs.Run.{names}
use Rattle.set_join.specs.Answers.{taken_in}
use Rattle.resume_set.specs.Answers.{says, event_of}
use Rattle.gtid_event_read.proofs.NamedLaws.{named-stopped, named-told, named-parts}
use Rattle.text.specs.Digits.{decimal}
use Rattle.text.specs.Keys.{colon, key_text}
use Rattle.text.specs.Lines.{newline, refused_text}
use Rattle.listing.specs.EventText.{anonymous_word, gtid_word, id_text, record_text, gtid_text, taken_text, event_text}

-- ---- a text that is written whole

-- it is put at the front, and there is room
pub fits_whole : {p q : Put} {bs : List ℕ} (n : ℕ) → n ≡ length bs → p.at ≡ 0 → n ≤ length p.out.now → PutsWhereFits p bs q
    → (Ok n ≡ answer_of p.out.now (bytes bs)) × (q.out.now ≡ output_of p.out.now (bytes bs))
fits_whole {p} {q} {bs} n size front room w =
    let there = w.placed (omega (arith, front, size, room)) in
    output-fits (omega arith) (record { holds = rw front at there.holds; ends = omega (arith, size) })

-- the same by another name
pub same-output : {l' : List ℕ} {a b : Output} {w : Result ℕ WriteError} (l : List ℕ) → a ≡ b → (w ≡ answer_of l a) × (l' ≡ output_of l a)
    → (w ≡ answer_of l b) × (l' ≡ output_of l b)
same-output l e p = rw e at p

pub same_text : {l' a b : List ℕ} {w : Result ℕ WriteError} (l : List ℕ) → a ≡ b → (w ≡ answer_of l (bytes a)) × (l' ≡ output_of l (bytes a))
    → (w ≡ answer_of l (bytes b)) × (l' ≡ output_of l (bytes b))
same_text l e p = same-output l (ap bytes e) p

-- ---- an id

module _ (uuid tag : List ℕ) (gno : ℕ) where
  pub id-long : 7 + length (key_text uuid tag) + length (decimal gno) ≡ length (id_text uuid tag gno)
  unfolding id_text
  id-long = simp length-append (omega arith)

  pub id-put : {p q r s u v : Put}
      → PutsWhereFits p gtid_word q → PutsWhereFits q (key_text uuid tag) r → PutsWhereFits r (colon ∷ []) s
      → PutsWhereFits s (decimal gno) u → PutsWhereFits u (newline ∷ []) v → PutsWhereFits p (id_text uuid tag gno) v
  unfolding id_text
  id-put p₁ p₂ p₃ p₄ p₅ = p₁ and p₂ and (p₃ and p₄) and p₅

-- ---- the text of a GTID event

-- a record's id by its key
pub id-named : (e : GtidEvent) → length e.sid ≡ 16
    → record_text e ≡ gtid_text (names (e.sid ++ take e.tag_len e.tag) e.gno)
id-named e whole = rw (uuid-of e.sid (take e.tag_len e.tag) whole, tag-of e.sid (take e.tag_len e.tag) whole)

module _ (type : ℕ) (body : List ℕ) where
  pub text-refused : (r : Refusal) → Err r ≡ gtid_read (named type body) → refused_text (number r) ≡ gtid_text (event_of type body)
  unfolding event_of
  text-refused r told = sym (ap (λ (p : Parse GtidEvent). gtid_text (says type p)) (named-stopped type body told))

  module _ (said : GtidRead) (told : Ok said ≡ gtid_read (named type body)) where
    pub text-anonymous : type ≡ 34 → anonymous_word ++ (newline ∷ []) ≡ gtid_text (event_of type body)
    unfolding event_of
    text-anonymous t = rw (named-told type body told, eq-eqb type 34 t)

    pub text-id : (type ≡ 34 → ⊥) → Bytes body → record_text said.event ≡ gtid_text (event_of type body)
    unfolding event_of
    text-id t ok = rw (named-told type body told, ne_eqb type 34 t) (id-named said.event (named-parts type body told ok).0)

-- ---- the text of an event

module _ (type : ℕ) (body : List ℕ) where
  pub event-previous : type ≡ 35 → taken_text (taken_in (previous body)) ≡ event_text type body
  unfolding event_text
  event-previous t = rw (eq-eqb type 35 t)

  pub event-gtid : (type ≡ 35 → ⊥) → gtid_text (event_of type body) ≡ event_text type body
  unfolding event_text
  event-gtid t = rw (ne_eqb type 35 t)
