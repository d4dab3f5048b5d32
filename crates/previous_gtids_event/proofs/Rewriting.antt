-- Laws of a rewrite: what its first pass gathers, the run of entries that its second pass writes, and the answer.
use mathlib.Core.Path.{◌≡◌, refl, sym, ap, subst, ◌∙◌}
use mathlib.Core.Bool.{Bool, true, false, ◌||◌, or_assoc, or-false}
use mathlib.Core.List.{List, [], ◌++◌}
use Prim.Native.Nat.{ℕ, suc, ◌+◌, ◌-◌, ◌*◌, ◌≤◌, ◌<◌}
use native.Mathlib.Nat.{zero-add, add-zero, add_assoc}
use native.Mathlib.Omega.{arith}
use lib.Dec.{ltb}
use lib.ListN.{length, length-append}
use Rattle.misc.specs.Pick.{pick}
use Rattle.std.specs.Prelude.{Result, Ok, Err}
use Rattle.misc.specs.declared.refusal.Refusal.{Refusal}
use Rattle.misc.specs.declared.refusal.WriteError.{WriteError}
use Rattle.misc.specs.declared.refusal.WriteError.TheVariants.{Refused, NoRoom}
use Rattle.misc.specs.declared.Read.{Read}
use Rattle.misc.specs.Parse.{Bytes, Parse, refuse, parsed, many, part, refusal_of, answered}
use Rattle.misc.specs.Body.{used_of}
use Rattle.misc.specs.Varlen.{varlen_bytes}
use Rattle.misc.specs.Output.{bytes, output_of, answer_of, WhereFits}
use Rattle.misc.specs.Put.{Puts, PutsWhereFits}
use Rattle.misc.specs.declared.put.Put.{Put}
use Rattle.misc.proofs.ParseLaws.{no_zero, part_length, answered-ok}
use Rattle.misc.proofs.OutputLaws.{output-fits, output-short, output-refused}
use Rattle.misc.proofs.PutLaws.{◌and◌, puts-fit, puts_none}
use Rattle.misc.proofs.Walk.{ahead, many-none, many-next, Whole, whole-turn}
use Rattle.packets.specs.Gno.{Interval}
use Rattle.packets.specs.Key.{Key}
use Rattle.previous_gtids_event.specs.Entry.{Entry, entry, uuid_of, tag_of}
use Rattle.previous_gtids_event.specs.Previous.{entry_at}
use Rattle.previous_gtids_event.specs.Rewrite.{tag_bytes, entry_bytes, entries_bytes, any_tag, header_bytes, body_bytes, rewritten}
use Rattle.previous_gtids_event.specs.Inside.{sizes_told, sizes_read, entry_bytes_of, entries_bytes_of}
use Rattle.previous_gtids_event.specs.declared.HeadRead.{HeadRead}
use Rattle.previous_gtids_event.specs.declared.Sizes.{Sizes}
use Rattle.previous_gtids_event.proofs.Reading.{WholeTold, whole-places, many-length}
use Rattle.previous_gtids_event.proofs.Writing.{entry_length, length-header, entry-bytes}

-- ---- the first pass

-- what is gathered, and what the rest adds to it
abbrev pub gathered : Bool → ℕ → ℕ → Sizes
gathered tagged plain full = record { tagged = tagged; plain = plain; full = full }

abbrev pub sizes_after : Sizes → Parse (List Entry) → Result Sizes Refusal
sizes_after z p =
    answered
    (λ es next. gathered (z.tagged || any_tag es) (z.plain + length (entries_bytes false es)) (z.full + length (entries_bytes true es)))
    p

pub sizes-none : (p : Parse (List Entry)) → sizes_read p ≡ sizes_after (gathered false 0 0) p
sizes-none (refuse r) = refl
sizes-none (parsed es next) = simp zero-add

pub sizes-end : (any : Bool) (plain full at : ℕ) → sizes_after (gathered any plain full) (parsed [] at) ≡ Ok (gathered any plain full)
unfolding any_tag entries_bytes
sizes-end any plain full at = simp (add-zero, or-false)

-- what an entry adds: `size` bytes, and where tags are wanted its tag and the `v` bytes of that one's length
pub record Sized (tagged : Bool) (s : List ℕ) (at : ℕ) (r : Read HeadRead) (size v : ℕ) : Type 0 where
  pub entry : Entry
  pub is : entry_at tagged s at ≡ parsed entry r.next
  pub more : (any : Bool) (plain full : ℕ) (p : Parse (List Entry))
      → sizes_after (gathered any plain full) (ahead entry p)
      ≡ sizes_after (gathered (any || ltb 0 r.value.tag_len) (plain + size) (full + (size + v + r.value.tag_len))) p

sizes-next : (k : Key) (is : List Interval) (size v len : ℕ) → len ≡ length (tag_of k)
    → length (entry_bytes false (entry k is)) ≡ size → length (entry_bytes true (entry k is)) ≡ size + v + len
    → (any : Bool) (plain full : ℕ) (p : Parse (List Entry))
    → sizes_after (gathered any plain full) (ahead (entry k is) p)
    ≡ sizes_after (gathered (any || ltb 0 len) (plain + size) (full + (size + v + len))) p
unfolding any_tag entries_bytes
sizes-next k is size v len l f g any plain full (refuse r) = refl
sizes-next k is size v len l f g any plain full (parsed es next) =
    let e = entry k is in
    rw (
      length-append (entry_bytes false e) (entries_bytes false es),
      length-append (entry_bytes true e) (entries_bytes true es),
      f,
      g,
      ← l,
      add_assoc plain size,
      add_assoc full (size + v + len),
      or_assoc,
    )

pub sized : (tagged : Bool) (s : List ℕ) (at : ℕ) (r : Read HeadRead) → WholeTold tagged s at r → (v : ℕ) → v ≡ length (varlen_bytes r.value.tag_len)
    → Sized tagged s at r (24 + 16 * r.value.intervals) v
sized tagged s at r told v e =
    let k = told.key in
    let there = told.there in
    let u : length (uuid_of k) ≡ 16 =
    ap length there.head.uuid ∙ part_length 16 s at (omega (arith, there.head.tag.after, there.head.tag.inside)) in
    let v-is : v ≡ length (varlen_bytes (length (tag_of k))) = e ∙ ap (λ (n : ℕ). length (varlen_bytes n)) told.tag-len in
    let n = told.count in
    let tag : length (tag_bytes true (tag_of k)) ≡ length (varlen_bytes (length (tag_of k))) + length (tag_of k) =
    length-append (varlen_bytes (length (tag_of k))) (tag_of k) in
    record {
      entry = entry k told.list;
      is = told.is;
      more = sizes-next k told.list (24 + 16 * r.value.intervals) v r.value.tag_len told.tag-len
          (entry_length false k told.list u ∙ omega arith)
          (entry_length true k told.list u ∙ omega (arith, told.tag-len));
    }

-- ---- the second pass

-- no tag is wanted
pub tag-unwanted : (tags : Bool) (t : List ℕ) → tags ≡ false → [] ≡ tag_bytes tags t
tag-unwanted tags t e = rw e

-- a key, and the count and the intervals behind it, make an entry
module _ (tagged : Bool) (s : List ℕ) (from : ℕ) (r : Read HeadRead) (told : WholeTold tagged s from r) (tags : Bool) (are_bytes : Bytes s) where
  pub entry-put : {p p₁ p₂ p₃ : Put}
      → Puts p (part s from (from + 16 - from)) p₁
      → Puts p₁ (tag_bytes tags (part s (r.value.first - 8 - r.value.tag_len) (r.value.first - 8 - (r.value.first - 8 - r.value.tag_len)))) p₂
      → Puts p₂ (part s (r.value.first - 8) (r.next - (r.value.first - 8))) p₃
      → PutsWhereFits p (entry_bytes_of tags (entry_at tagged s from)) p₃
  entry-put {p} {p₁} {p₂} {p₃} f g h =
      let t = r.value.first - 8 - r.value.tag_len in
      let uuid : from + 16 - from ≡ 16 = omega arith in
      let tag : r.value.first - 8 - t ≡ r.value.tag_len = omega (arith, whole-places told) in
      let named : Puts p (part s from 16) p₁ = subst (λ (n : ℕ). Puts p (part s from n) p₁) uuid f in
      let keyed : Puts p₁ (tag_bytes tags (part s t r.value.tag_len)) p₂ = subst (λ (n : ℕ). Puts p₁ (tag_bytes tags (part s t n)) p₂) tag g in
      let all = ap (entry_bytes_of tags) told.is ∙ entry-bytes tagged s from r told tags are_bytes in
      subst (λ (bs : List ℕ). PutsWhereFits p bs p₃) (sym all) (puts-fit named and puts-fit keyed and puts-fit h)

-- whoever writes the entries that are left writes all of them
pub record PutSoFar (item : ℕ → Parse Entry) (tags : Bool) (wanted : List ℕ) (p₀ : Put) (left next : ℕ) (p : Put) : Type 0 where
  pub whole : refusal_of (many item left next) ≡ 0
  pub rest : {q : Put} → PutsWhereFits p (entries_bytes_of tags (many item left next)) q → PutsWhereFits p₀ wanted q

bytes-ahead : (tags : Bool) (e : Entry) (p : Parse (List Entry)) → refusal_of p ≡ 0
    → entries_bytes_of tags (ahead e p) ≡ entry_bytes tags e ++ entries_bytes_of tags p
unfolding entries_bytes
bytes-ahead tags e (refuse x) h = absurd (no_zero x h)
bytes-ahead tags e (parsed es last) h = refl

module _ {item : ℕ → Parse Entry} {tags : Bool} {wanted : List ℕ} {p₀ p : Put} {n next : ℕ}
    (so_far : PutSoFar item tags wanted p₀ (suc n) next p) where
  turn : Whole item n next
  turn = whole-turn item n next so_far.whole

  -- the next entry is whole
  pub put_whole : refusal_of (item next) ≡ 0
  put_whole = ap refusal_of turn.is

  -- once it is written
  pub put_next : {next' : ℕ} {q : Put} → next' ≡ used_of (item next) → PutsWhereFits p (entry_bytes_of tags (item next)) q
      → PutSoFar item tags wanted p₀ n next' q
  put_next {next'} {q} e step =
      let same : next' ≡ turn.next = e ∙ ap used_of turn.is in
      let one : PutsWhereFits p (entry_bytes tags turn.head) q = subst (λ (x : Parse Entry). PutsWhereFits p (entry_bytes_of tags x) q) turn.is step in
      let all : entries_bytes_of tags (many item (suc n) next) ≡ entry_bytes tags turn.head ++ entries_bytes_of tags (many item n turn.next) =
      ap (entries_bytes_of tags) (many-next item n next turn.head turn.next turn.is)
      ∙ bytes-ahead tags turn.head (many item n turn.next) turn.rest in
      subst (λ (m : ℕ). PutSoFar item tags wanted p₀ n m q) (sym same) (record {
        whole = turn.rest;
        rest = λ {q = r} f. so_far.rest (subst (λ (bs : List ℕ). PutsWhereFits p bs r) (sym all) (one and f));
      })

pub put-done : {item : ℕ → Parse Entry} {tags : Bool} {wanted : List ℕ} {p₀ p : Put} {next : ℕ}
    → PutSoFar item tags wanted p₀ 0 next p → PutsWhereFits p₀ wanted p
unfolding entries_bytes
put-done {item} {tags} {wanted} {p₀} {p} {next} so_far = so_far.rest (rw (many-none item next) (puts-fit (puts_none p)))

-- ---- the whole
pub rewrite-refused : (p : Parse (List Entry)) (out : List ℕ) {x : Refusal} {r : Result ℕ WriteError} → p ≡ refuse x → r ≡ Err (Refused x)
    → (r ≡ answer_of out (rewritten p)) × (out ≡ output_of out (rewritten p))
rewrite-refused p out {x} e told = rw (e, told) (output-refused out x)

-- the first pass read n entries
module _ (item : ℕ → Parse Entry) (n : ℕ) (z : Sizes) (is : Ok z ≡ sizes_read (many item n 8)) (out : List ℕ) where
  abbrev entries : Parse (List Entry)
  entries = many item n 8

  pub was-whole : refusal_of entries ≡ 0
  was-whole = let (es, next, e, told) = answered-ok sizes_told entries is in ap refusal_of e

  -- what is to be written, and how long it is
  body_is : rewritten entries ≡ bytes (header_bytes z.tagged n ++ entries_bytes_of z.tagged entries)
  unfolding body_bytes
  body_is =
      let (es, next, e, told) = answered-ok sizes_told entries is in
      ap rewritten e
      ∙ ap (λ (m : ℕ). bytes (header_bytes (any_tag es) m ++ entries_bytes (any_tag es) es)) (many-length item n 8 es next e)
      ∙ sym (ap (λ (y : Sizes). bytes (header_bytes y.tagged n ++ entries_bytes_of y.tagged entries)) told
      ∙ ap (λ (q : Parse (List Entry)). bytes (header_bytes (any_tag es) n ++ entries_bytes_of (any_tag es) q)) e)

  body-size : length (header_bytes z.tagged n ++ entries_bytes_of z.tagged entries) ≡ 8 + pick z.tagged z.full z.plain
  body-size =
      let (es, next, e, told) = answered-ok sizes_told entries is in
      length-append (header_bytes z.tagged n) (entries_bytes_of z.tagged entries)
      ∙ ap (λ (m : ℕ). m + length (entries_bytes_of z.tagged entries)) (length-header z.tagged n)
      ∙ ap (λ (m : ℕ). 8 + m) (ap (λ (q : Parse (List Entry)). length (entries_bytes_of z.tagged q)) e
      ∙ picked z.tagged es ∙ sym (ap (λ (y : Sizes). pick z.tagged y.full y.plain) told))
    where
      picked : (t : Bool) (es : List Entry) → length (entries_bytes t es) ≡ pick t (length (entries_bytes true es)) (length (entries_bytes false es))
      picked true es = refl
      picked false es = refl

  module _ (len : ℕ) (size : len ≡ 8 + pick z.tagged z.full z.plain) where
    pub rewrite-short : length out < len
        → (Err (NoRoom len) ≡ answer_of out (rewritten entries)) × (out ≡ output_of out (rewritten entries))
    rewrite-short h = rw body_is (output-short out _ len (size ∙ sym body-size) h)

    -- the header stands at the front, and the entries behind it
    pub rewrite-whole : {l : List ℕ} {end : ℕ} → len ≤ length out
        → WhereFits out 0 (header_bytes z.tagged n ++ entries_bytes_of z.tagged entries) l end
        → (Ok end ≡ answer_of out (rewritten entries)) × (l ≡ output_of out (rewritten entries))
    rewrite-whole room run =
        let all : length (header_bytes z.tagged n ++ entries_bytes_of z.tagged entries) ≤ length out = omega (arith, body-size) in
        rw body_is (output-fits all (run.placed (omega arith)))
