-- Laws of a binlog reader as bytes (`specs/FlatBinlog.antt`): what is read from it, and what the calls over it answer and leave.
use Prim.Native.Nat.{ℕ, ◌+◌}
use mathlib.Core.Path.{◌≡◌, refl, ◌∙◌}
use mathlib.Core.List.{List, [], ◌∷◌, append-nil}
use native.Mathlib.Omega.{arith}
use Rattle.std.proofs.Common.{MutBor}
use lib.ListN.{length, get_or, drop, length-append, drop_of_length-le}
use lib.Dec.{ltb}
use borrow.Author.Tests.{eq-eqb, ne_eqb}
use Rattle.misc.specs.Le.{le_bytes, number_at}
use Rattle.misc.specs.Put.{Puts, PutsWhereFits}
use Rattle.misc.specs.declared.put.Put.{Put}
use Rattle.misc.proofs.LeLaws.{length-le_bytes}
use Rattle.misc.proofs.OutputLaws.{written_is}
use Rattle.misc.proofs.PutLaws.{◌and◌, puts-fit}
use Rattle.binlog.specs.Held.{Front}
use Rattle.binlog.specs.declared.Phase.{Phase}
use Rattle.binlog.specs.declared.Phase.TheVariants as phase
use Rattle.binlog_reader.specs.Step.{Stepped, step_of, run_in, step_answers, step_leaves, step_holds}
use Rattle.binlog_reader.specs.declared.Reader.{Reader}
use Rattle.binlog_reader.specs.declared.Answer.{Answer}
use Rattle.abi.specs.Answers.{bit}
use Rattle.abi.specs.FlatBinlog.{phase_numbers, phase_from, said_numbers, flat_step, reader_in, flat_says, flat_keeps, flat_stepped, flat_buffer, flat_holds}
use Rattle.abi.specs.declared.flat_binlog.PhaseNumbers.{PhaseNumbers}
use Rattle.abi.specs.declared.flat_binlog.SaidNumbers.{SaidNumbers}

pub length-step : (s : Answer) → length (flat_step s) ≡ 48
unfolding flat_step
length-step s = simp (length-append, length-le_bytes)

-- ---- reading

-- a kind that is none of them
pub no_kind : (kind number left have : ℕ) → (kind ≡ 0 → ⊥) → (kind ≡ 1 → ⊥) → (kind ≡ 2 → ⊥) → (kind ≡ 3 → ⊥) → (kind ≡ 4 → ⊥) → (kind ≡ 5 → ⊥)
    → (kind ≡ 6 → ⊥) → phase.Stopped 0 0 ≡ phase_from kind number left have
no_kind k number left have a b c d e f g =
    rw (ne_eqb k 0 a, ne_eqb k 1 b, ne_eqb k 2 c, ne_eqb k 3 d, ne_eqb k 4 e, ne_eqb k 5 f, ne_eqb k 6 g)

pub reader-read : (bs : List ℕ) (p : Phase) (left have len : ℕ) → left ≡ number_at bs 8 → have ≡ number_at bs 16
    → p ≡ phase_from (get_or bs 0 0) (get_or bs 1 0) left have → len ≡ number_at bs 24
    → ◌≡◌ {A = Reader} (record { phase = p; checksums = ltb 0 (get_or bs 2 0); len = len }) (reader_in bs)
unfolding reader_in
reader-read bs p left have len l h e n =
    let there : p ≡ phase_from (get_or bs 0 0) (get_or bs 1 0) (number_at bs 8) (number_at bs 16) = e ∙ rw (l, h) in
    rw (there, n)

-- ---- writing

-- the parts of a step, put one behind the other, are its bytes
pub step-put : (s : Answer) (here : PhaseNumbers) (said : SaidNumbers) → here ≡ phase_numbers s.reader.phase → said ≡ said_numbers s.said
    → {p p₁ p₂ p₃ p₄ p₅ p₆ : Put}
    → Puts p (here.kind ∷ here.number ∷ bit s.reader.checksums ∷ said.kind ∷ said.event ∷ 0 ∷ 0 ∷ 0 ∷ []) p₁
    → Puts p₁ (le_bytes 8 here.left) p₂
    → Puts p₂ (le_bytes 8 here.have) p₃
    → Puts p₃ (le_bytes 8 s.reader.len) p₄
    → Puts p₄ (le_bytes 8 s.used) p₅
    → Puts p₅ (le_bytes 8 said.len) p₆
    → PutsWhereFits p (flat_step s) p₆
unfolding flat_step
step-put s here said e h head left have len used told =
    rw (← e, ← h) (puts-fit head and puts-fit left and puts-fit have and puts-fit len and puts-fit used and puts-fit told)

-- where there are 48 bytes nothing else is left
pub step_kept : (s : Answer) {out : MutBor (List ℕ)} {q : Put} → length out.now ≡ 48 → PutsWhereFits (record { out = out; at = 0 }) (flat_step s) q
    → q.out.now ≡ flat_step s
step_kept s {out} {q} long f =
    let size = length-step s in
    let none : drop (0 + length (flat_step s)) out.now ≡ [] = drop_of_length-le out.now {i = 0 + length (flat_step s)} (omega (arith, size)) in
    (f.placed (omega (arith, size))).holds ∙ written_is out.now 0 (flat_step s) (omega (arith, size)) ∙ rw none (append-nil (flat_step s))

-- ---- what the calls answer and leave

module _ (bs : List ℕ) where
  -- bytes that are no reader
  module _ (none : length bs ≡ 48 → ⊥) where
    pub no_reader : (s : Answer) → (12 ≡ flat_says bs s) × (bs ≡ flat_keeps bs s)
    unfolding flat_says flat_keeps
    no_reader s = rw (ne_eqb (length bs) 48 none) (refl, refl)

    no_buffer : (w : Stepped) (buffer : List ℕ) → buffer ≡ flat_buffer bs buffer w
    unfolding flat_buffer
    no_buffer w buffer = rw (ne_eqb (length bs) 48 none)

    holds-none : (w : Stepped) (work : List ℕ) → Front (flat_holds bs w) work
    unfolding flat_holds
    holds-none w work = rw (ne_eqb (length bs) 48 none) (record { short = omega arith; is = refl })

    -- a step over them
    pub step-none : (s : Answer) (w : Stepped) (set spare work : List ℕ)
        → (12 ≡ flat_says bs s) × ((bs ≡ flat_keeps bs s)
        × ((set ≡ flat_buffer bs set w) × ((spare ≡ flat_buffer bs spare w) × Front (flat_holds bs w) work)))
    step-none s w set spare work =
        let (a, b) = no_reader s in
        (a, (b, (no_buffer w set, (no_buffer w spare, holds-none w work))))

  -- a reader
  module _ (long : length bs ≡ 48) where
    pub kept-told : (s t : Answer) (bs' : List ℕ) (r : ℕ) → t ≡ s → (r ≡ (said_numbers t.said).refusal) × (bs' ≡ flat_step t)
        → (r ≡ flat_says bs s) × (bs' ≡ flat_keeps bs s)
    unfolding flat_says flat_keeps
    kept-told s t bs' r e told = rw (eq-eqb (length bs) 48 long, ← e) told

    pub step-told : (reader : Reader) → reader ≡ reader_in bs → (work work' set set' spare spare' chunk : List ℕ) (t : Answer)
        → (t ≡ step_answers reader (step_of reader work set (length spare) chunk))
        × ((set' ≡ step_leaves set (run_in (step_of reader work set (length spare) chunk)))
        × ((spare' ≡ step_leaves spare (run_in (step_of reader work set (length spare) chunk)))
        × Front (step_holds (run_in (step_of reader work set (length spare) chunk))) work'))
        → (bs' : List ℕ) (r : ℕ) → (r ≡ (said_numbers t.said).refusal) × (bs' ≡ flat_step t)
        → (r ≡ flat_says bs (step_answers (reader_in bs) (flat_stepped bs work set (length spare) chunk)))
        × ((bs' ≡ flat_keeps bs (step_answers (reader_in bs) (flat_stepped bs work set (length spare) chunk)))
        × ((set' ≡ flat_buffer bs set (flat_stepped bs work set (length spare) chunk))
        × ((spare' ≡ flat_buffer bs spare (flat_stepped bs work set (length spare) chunk))
        × Front (flat_holds bs (flat_stepped bs work set (length spare) chunk)) work')))
    unfolding flat_stepped flat_buffer flat_holds
    step-told reader is work work' set set' spare spare' chunk t (told, (kept, (spared, front))) bs' r says =
        let (a, b) = kept-told (step_answers reader (step_of reader work set (length spare) chunk)) t bs' r told says in
        rw (← is, eq-eqb (length bs) 48 long) (a, (b, (kept, (spared, front))))
