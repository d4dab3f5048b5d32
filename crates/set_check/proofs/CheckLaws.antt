-- Laws of the check: its loop, and what a whole set is.
use Prim.Native.Nat.{ℕ, ◌+◌, ◌<◌, ◌≤◌}
use mathlib.Core.Path.{◌≡◌, refl, sym, ap, ◌∙◌}
use mathlib.Core.Bool.{Bool, false, ◌||◌, or-false}
use mathlib.Core.List.{List, [], ◌∷◌, ◌++◌}
use native.Mathlib.Omega.{arith}
use lib.Dec.{ltb}
use lib.ListN.{length, drop, length-drop}
use lib.Seq.{drop-length, drop_at}
use Rattle.std.specs.Prelude.{Ok, Err}
use Rattle.misc.specs.Refusal.{not_a_set}
use Rattle.misc.specs.Parse.{Bytes}
use Rattle.packets.specs.Key.{Key}
use Rattle.previous_gtids_event.specs.Entry.{Entry, entry, uuid_of}
use Rattle.previous_gtids_event.specs.Rewrite.{entries_bytes, any_tag, header_bytes, body_bytes}
use Rattle.gtid_sets.specs.Set.{Above}
use Rattle.gtid_sets.specs.Limits.{max_entries, max_intervals, intervals}
use Rattle.gtid_sets.specs.Lent.{form, lent_set, GoodKeys, SetLaid}
use Rattle.gtid_sets.proofs.LimitLaws.{limits-fair, limits-says, limits-from}
use Rattle.previous_gtids_event.proofs.Writing.{length-header}
use Rattle.gtid_sets.proofs.LentLaws.{is-lent, lent_none}
use Rattle.set_check.specs.Check.{checked_of, HeaderIs, NoHeader, EntryIs, NoEntry, Rest, Whole}
use Rattle.set_check.specs.Cursor.{beyond_of, key_here}
use Rattle.set_check.specs.declared.Cursor.{Cursor}
use Rattle.set_check.specs.declared.EntryPlace.{EntryPlace}
use Rattle.set_check.proofs.HeaderLaws.{header-there, headers-same}
use Rattle.set_check.proofs.RestLaws.{rest-before, same_total, rest-not, rest-after}

-- ---- the loop

-- the whole is as it should be just if the rest is
pub record Walked (bs : List ℕ) (from c : Cursor) (low : Key) (used : ℕ) (any : Bool) : Type 0 where
  pub on : Rest bs from [] 0 false → Rest bs c low used any
  pub back : (q : Rest bs c low used any) → Rest bs from [] 0 false
  pub total : (q : Rest bs c low used any) → intervals (back q).set ≡ used + intervals q.set

pub walked_none : (bs : List ℕ) (from : Cursor) → Walked bs from from [] 0 false
walked_none bs from = record { on = λ p. p; back = λ p. p; total = λ q. omega arith }

module _ (bs : List ℕ) (from c : Cursor) (low : Key) (used : ℕ) (any : Bool) (v : Walked bs from c low used any) where
  module _ (left : 0 < c.left) where
    pub walked-not : NoEntry bs c low → Rest bs from [] 0 false → ⊥
    walked-not none p = rest-not bs c low used any left none (v.on p)

    pub walked_next : Bytes bs → (p : EntryPlace) (h : EntryIs bs c low p) (next : Cursor) → next ≡ beyond_of c p
        → Walked bs from next (key_here bs c p) (used + p.count) (any || ltb 0 p.tag_len)
    walked_next ok p h next after =
        rw after (record {
          on = λ r. rest-after bs c low used any left p h (v.on r);
          back = λ q. v.back (rest-before bs c low used any left p h ok q);
          total = λ q. v.total (rest-before bs c low used any left p h ok q) ∙ omega (arith, same_total bs c low used any left p h ok q);
        })

-- nothing is left: all was there just if the place is the end and the tags are as the header says
nothing_left : (bs : List ℕ) (c : Cursor) (low : Key) (used : ℕ) (any : Bool) → c.left ≡ 0 → Rest bs c low used any
    → (drop c.at bs ≡ []) × (any || false ≡ c.tagged)
unfolding entries_bytes any_tag
nothing_left bs c low used any none p = go p.set p.is p.count p.tags
  where
    go : (s : List Entry) → drop c.at bs ≡ entries_bytes c.tagged s → length s ≡ c.left → (any || any_tag s) ≡ c.tagged
        → (drop c.at bs ≡ []) × (any || false ≡ c.tagged)
    go [] e n t = (e, t)
    go (x ∷ s) e n t = absurd (omega arith)

module _ (bs : List ℕ) (from c : Cursor) (low : Key) (used : ℕ) (any : Bool) (v : Walked bs from c low used any) (none : c.left ≡ 0) where
  pub walked-short : c.at ≤ length bs → (c.at ≡ length bs → ⊥) → Rest bs from [] 0 false → ⊥
  walked-short h k p =
      let e = (nothing_left bs c low used any none (v.on p)).0 in
      k (omega (arith, sym (length-drop c.at bs) ∙ ap length e))

  pub walked-untagged : (c.tagged ≡ any → ⊥) → Rest bs from [] 0 false → ⊥
  walked-untagged f p = f (sym (nothing_left bs c low used any none (v.on p)).1 ∙ or-false any)

  pub walked_many : max_intervals < used → Rest bs from [] 0 false → ⊥
  walked_many m p = omega (arith, (v.on p).limit)

  pub walked_whole : c.at ≡ length bs → used ≤ max_intervals → c.tagged ≡ any → Whole bs from used
  unfolding entries_bytes any_tag
  walked_whole e u t =
      let end : Rest bs c low used any = record {
        set = [];
        is = rw e (drop-length bs);
        count = sym none;
        formed = tt;
        above = tt;
        keyed = tt;
        fair = refl;
        limit = omega arith;
        tags = or-false any ∙ sym t;
      } in
      record { rest = v.back end; total-is = v.total end ∙ omega arith }

-- ---- a lent set

all_above : (s : List Entry) → GoodKeys s → Above [] s
unfolding uuid_of
all_above [] k = tt
all_above (entry [] is ∷ s) k = absurd (omega (arith, k.0.uuid))
all_above (entry (b ∷ j) is ∷ s) k = refl

-- what a lent set is, for the check
lent-rest : (bs : List ℕ) (s : List Entry) → SetLaid bs s
    → (bs ≡ header_bytes (any_tag s) (length s) ++ entries_bytes (any_tag s) s) × (length s ≤ max_entries)
    × Rest bs (record { tagged = any_tag s; at = 8; left = length s }) [] 0 false
unfolding body_bytes
lent-rest bs s l =
    let (few, limit) = limits-says s l.limited in (
      l.written,
      few,
      record {
        set = s;
        is =
            rw l.written
            (drop_at (header_bytes (any_tag s) (length s)) (entries_bytes (any_tag s) s) 8 (length-header (any_tag s) (length s)));
        count = refl;
        formed = l.formed;
        above = all_above s l.keyed;
        keyed = l.keyed;
        fair = limits-fair s l.limited;
        limit = omega arith;
        tags = refl;
      },
    )

pub check-headless : (bs : List ℕ) → NoHeader bs → Err not_a_set ≡ checked_of (lent_set bs)
check-headless bs none =
    let u = lent_none bs (λ s l. let (a, b, c) = lent-rest bs s l in none (any_tag s) (length s) (entries_bytes (any_tag s) s) b a) in
    rw u

-- all entries behind a header
module _ (bs : List ℕ) (c : Cursor) (h : HeaderIs bs c) where
  pub check-broken : (Rest bs c [] 0 false → ⊥) → Err not_a_set ≡ checked_of (lent_set bs)
  check-broken none =
      let u = lent_none bs (λ s l.
      let (a, b, rest) = lent-rest bs s l in
      let (p, q) = headers-same c.tagged (any_tag s) c.left (length s) h.few b
      (sym (header-there bs c.tagged c.left _ h.few h.is) ∙ header-there bs (any_tag s) (length s) _ b a) in
      none (rw (p, q, h.behind) rest)) in
      rw u

  check-lent : (q : Rest bs c [] 0 false) → lent_set bs ≡ form q.set
  unfolding body_bytes
  check-lent q =
      let t : any_tag q.set ≡ c.tagged = q.tags in
      is-lent bs q.set (record {
        written = h.is ∙ rw (t, q.count, ← h.behind, q.is);
        formed = q.formed;
        keyed = q.keyed;
        limited = limits-from q.set q.fair (omega (arith, q.count, h.few)) (omega (arith, q.limit));
      })

  pub check-whole : (total : ℕ) (q : Whole bs c total) → Ok (record { tagged = c.tagged; entries = c.left; intervals = total }) ≡ checked_of (lent_set bs)
  check-whole total q = let t : any_tag q.rest.set ≡ c.tagged = q.rest.tags in rw (check-lent q.rest, t, q.rest.count, q.total-is)
