-- Demand 3, members, over the events of a file: each answered event was offered or joined to the set as those before it left it; what is kept is a
-- set, and its members are those that it began with and those of the answered events.
use Prim.Native.Nat.{ℕ}
use mathlib.Core.Path.{◌≡◌, refl, sym, ap, ◌∙◌}
use mathlib.Core.Bool.{Bool, ◌||◌, or-false, or_assoc}
use mathlib.Core.List.{List, [], ◌∷◌, ◌++◌}
use native.Mathlib.Omega.{arith}
use lib.ListN.{take, drop, take-append-drop}
use Rattle.misc.specs.Parse.{Bytes}
use Rattle.misc.proofs.Bounds.{append-bytes, front_bytes, behind-bytes}
use Rattle.packets.specs.Key.{Key}
use Rattle.previous_gtids_event.specs.Entry.{Entry}
use Rattle.gtid_sets.specs.Set.{has}
use Rattle.gtid_sets.specs.Lent.{Lent, form, unfit, lent_set}
use Rattle.gtid_sets.proofs.LentLaws.{is-lent}
use Rattle.resume_set_laws.specs.History.{among}
use Rattle.binlog.specs.Format.{trailer}
use Rattle.binlog.specs.Run.{did, at, Word, chunk, end, hear}
use Rattle.binlog.specs.Held.{held_at}
use Rattle.binlog_reader.specs.Does.{Judged, does}
use Rattle.binlog_reader.specs.Step.{SetRun, begins_at}
use Rattle.binlog_laws.specs.Files.{ids_of, read_in, start_of, our_files, OfBytes, granted_by, Follows, FilesTell}
use Rattle.binlog_laws.proofs.DoesLaws.{did-as}
use Rattle.binlog_laws.proofs.OneEvent.{event-grows}
use Rattle.binlog_laws.proofs.Throughout.{Kind, AllOf, Fine, throughout}

-- ---- two kinds: any lists, and bytes

any-kind : Kind (λ (bs : List ℕ). Unit {0})
any-kind = record { none = tt; first = λ b bs h. tt; rest = λ b bs h. tt; both = λ a b h k. tt; front = λ n bs h. tt }

all_any : (ws : List Word) → AllOf (λ (bs : List ℕ). Unit {0}) ws
all_any [] = tt
all_any (chunk bs ∷ ws) = (tt, all_any ws)
all_any (end ∷ ws) = all_any ws

no_bytes : Bytes []
no_bytes i = omega arith

take-bytes : (n : ℕ) (bs : List ℕ) → Bytes bs → Bytes (take n bs)
take-bytes n bs h = front_bytes (take n bs) (drop n bs) (rw (take-append-drop n bs) h)

pub bytes-kind : Kind Bytes
bytes-kind = record {
  none = no_bytes;
  first = λ b bs h. front_bytes (b ∷ []) bs h;
  rest = λ b bs h. behind-bytes (b ∷ []) bs h;
  both = append-bytes;
  front = take-bytes;
}

pub all-bytes : (ws : List Word) → OfBytes ws → AllOf Bytes ws
all-bytes [] h = tt
all-bytes (chunk bs ∷ ws) h = (h.0, all-bytes ws h.1)
all-bytes (end ∷ ws) h = all-bytes ws h

-- nothing is held at the start
none-held : (l : Lent) → held_at (begins_at l) ≡ []
none-held unfit = refl
none-held (form s) = refl

-- ---- each event follows those before it

follows-one : (room : ℕ) (set : List ℕ) (js : List Judged) (last : List ℕ) (j : Judged) (next : List ℕ) → Follows room set js last
    → does room last j.type j.body ≡ did j next → Follows room set (js ++ j ∷ []) next
follows-one room set [] last j next f e = (next, ap (λ (x : List ℕ). does room x j.type j.body) f ∙ e, refl)
follows-one room set (i ∷ js) last j next f e = (f.0, f.1, follows-one room f.0 js last j next f.2 e)

follows-turn : (room : ℕ) (set kept : List ℕ) (js : List Judged) (type : ℕ) (body : List ℕ) (j : Judged) (next : List ℕ) → Unit {0}
    → Follows room set js kept → does room kept type body ≡ did j next → Follows room set (js ++ j ∷ []) next
follows-turn room set kept js type body j next ok f e =
    let d = did-as room kept type body j next e in
    let again : does room kept j.type j.body ≡ does room kept type body =
    ap (λ (x : ℕ). does room kept x j.body) d.is-type ∙ ap (does room kept type) d.is_body in
    follows-one room set js kept j next f (again ∙ e)

read-follows : (room t : ℕ) (set : List ℕ) (r : SetRun)
    → Fine (λ (bs : List ℕ). Unit {0}) any-kind room t (λ (kept : List ℕ) (js : List Judged). Follows room set js kept) (follows-turn room set) r
    → Follows room set (read_in r).judged (read_in r).set
read-follows room t set (at p kept js) h = h.1

-- ---- members

-- after some answers
pub record Holds (s : List Entry) (kept : List ℕ) (js : List Judged) : Type 0 where
  pub now : List Entry
  pub lent : lent_set kept ≡ form now
  pub members : (k : Key) (n : ℕ) → has now k n ≡ has s k n || granted_by js k n

granted-one : (js : List Judged) (j : Judged) (k : Key) (n : ℕ) → granted_by (js ++ j ∷ []) k n ≡ granted_by js k n || among (ids_of j) k n
granted-one [] j k n = or-false (among (ids_of j) k n)
granted-one (i ∷ js) j k n =
    ap (λ (x : Bool). among (ids_of i) k n || x) (granted-one js j k n) ∙ sym (or_assoc (among (ids_of i) k n) (granted_by js k n) (among (ids_of j) k n))

holds-turn : (room : ℕ) (s : List Entry) (kept : List ℕ) (js : List Judged) (type : ℕ) (body : List ℕ) (j : Judged) (next : List ℕ) → Bytes body
    → Holds s kept js → does room kept type body ≡ did j next → Holds s next (js ++ j ∷ [])
holds-turn room s kept js type body j next ok h e =
    let g = event-grows room kept h.now type body j next h.lent ok e in
    record {
      now = g.grown;
      lent = g.lent;
      members = λ k n.
          g.members k n ∙ ap (λ (x : Bool). x || among (ids_of j) k n) (h.members k n)
          ∙ or_assoc (has s k n) (granted_by js k n) (among (ids_of j) k n) ∙ ap (λ (x : Bool). has s k n || x) (sym (granted-one js j k n));
    }

read-holds : (room t : ℕ) (s : List Entry) (r : SetRun) → Fine Bytes bytes-kind room t (Holds s) (holds-turn room s) r
    → Holds s (read_in r).set (read_in r).judged
read-holds room t s (at p kept js) h = h.1

-- from a set
pub file-holds : (room : ℕ) (set : List ℕ) (s : List Entry) (checksums : Bool) (ws : List Word) → lent_set set ≡ form s → OfBytes ws
    → Holds s (our_files room set checksums ws).set (our_files room set checksums ws).judged
file-holds room set s checksums ws lent ok =
    read-holds room (trailer checksums) s (hear (does room) (trailer checksums) (start_of set) ws)
    (throughout Bytes bytes-kind room (trailer checksums) (Holds s) (holds-turn room s) (start_of set) ws (all-bytes ws ok)
    (rw (none-held (lent_set set)) no_bytes, record { now = s; lent = lent; members = λ k n. sym (or-false (has s k n)) }))

pub files-tell : (room : ℕ) → FilesTell room (our_files room)
files-tell room = record {
  follows = λ set checksums ws.
      read-follows room (trailer checksums) set (hear (does room) (trailer checksums) (start_of set) ws)
      (throughout (λ (bs : List ℕ). Unit {0}) any-kind room (trailer checksums) (λ (kept : List ℕ) (js : List Judged). Follows room set js kept)
      (follows-turn room set) (start_of set) ws (all_any ws) (tt, refl));
  formed = λ set s checksums ws laid ok. let h = file-holds room set s checksums ws (is-lent set s laid) ok in (h.now, h.lent);
  members = λ set s checksums ws laid ok k n. let h = file-holds room set s checksums ws (is-lent set s laid) ok in rw h.lent (h.members k n);
}
