-- Demand 2, the layout of an untagged record (types 33 and 34): which bytes are which record. No parser is named here.
use Rattle.std.specs.Prelude.{ℕ, ◌+◌, ◌-◌, ◌*◌, ◌^◌, ◌<◌, ◌≡◌, List, [], ◌∷◌, ◌++◌, ◌⊎◌, length, replicate}
use Rattle.misc.specs.Forms.{Number, LenencForm}
use Rattle.gtid_event.specs.declared.GtidEvent.{GtidEvent}

-- ---- parts

-- an immediate number of w bytes and the original: the immediate's highest bit says that the original follows; otherwise they are equal
pub data PairLaid (w : ℕ) : ℕ → ℕ → List ℕ → Type 0 where
  equal : {v : ℕ} {bs : List ℕ} → Number w v bs → v < 2 ^ (8 * w - 1) → PairLaid w v v bs
  both : {v original : ℕ} {bs more : List ℕ} → Number w (v + 2 ^ (8 * w - 1)) bs → v < 2 ^ (8 * w - 1) → Number w original more
      → PairLaid w v original (bs ++ more)

-- such a pair, if at least w bytes are left for it and what follows it; else both are what stands for absent ones
pub data PairIfLeft (w absent : ℕ) : ℕ → ℕ → List ℕ → List ℕ → Type 0 where
  gone : {rest : List ℕ} → length rest < w → PairIfLeft w absent absent absent [] rest
  there : {immediate original : ℕ} {bs rest : List ℕ} → PairLaid w immediate original bs → PairIfLeft w absent immediate original bs rest

-- a transaction length, if any byte is left for it and what follows it; else 0
pub data LengthIfLeft : ℕ → List ℕ → List ℕ → Type 0 where
  gone : LengthIfLeft 0 [] []
  there : {v : ℕ} {bs rest : List ℕ} → LenencForm v bs → LengthIfLeft v bs rest

-- nothing, or bytes that don't begin with 2
pub data NoTypecode : List ℕ → Type 0 where
  nothing : NoTypecode []
  other : {b : ℕ} {rest : List ℕ} → (b ≡ 2 → ⊥) → NoTypecode (b ∷ rest)

-- ---- the record

-- flags, uuid, gno; and no typecode, whatever else follows. All other fields are 0, and the versions 999,999
pub record ShortLaid (s : List ℕ) (e : GtidEvent) (used : ℕ) : Type 0 where
  pub gno_bytes : List ℕ
  pub unread : List ℕ
  pub whole : s ≡ (e.flags ∷ []) ++ e.sid ++ gno_bytes ++ unread
  pub uuid_is : length e.sid ≡ 16
  pub gno_is : Number 8 e.gno gno_bytes
  pub no_typecode : NoTypecode unread
  pub others : e ≡ record {
    flags = e.flags;
    sid = e.sid;
    gno = e.gno;
    tag = replicate 32 0;
    tag_len = 0;
    lc_typecode = 0;
    last_committed = 0;
    sequence_number = 0;
    immediate_commit_timestamp = 0;
    original_commit_timestamp = 0;
    tx_length = 0;
    immediate_server_version = 999999;
    original_server_version = 999999;
    commit_group_ticket = 0;
  }
  pub uses : used ≡ length ((e.flags ∷ []) ++ e.sid ++ gno_bytes)

-- flags, uuid, gno, the typecode 2, last_committed, sequence_number; timestamps, transaction length and server versions as far as the body reaches;
-- and what is left. There is no tag and no ticket
pub record LongLaid (s : List ℕ) (e : GtidEvent) (used : ℕ) : Type 0 where
  pub gno_bytes : List ℕ
  pub last_bytes : List ℕ
  pub sequence_bytes : List ℕ
  pub timestamps : List ℕ
  pub len_bytes : List ℕ
  pub versions : List ℕ
  pub unread : List ℕ
  pub whole : s ≡ (e.flags ∷ []) ++ e.sid ++ gno_bytes ++ (2 ∷ []) ++ last_bytes ++ sequence_bytes ++ timestamps ++ len_bytes ++ versions ++ unread
  pub uuid_is : length e.sid ≡ 16
  pub gno_is : Number 8 e.gno gno_bytes
  pub last_is : Number 8 e.last_committed last_bytes
  pub sequence_is : Number 8 e.sequence_number sequence_bytes
  pub timestamps_are : PairIfLeft 7 0 e.immediate_commit_timestamp e.original_commit_timestamp timestamps (len_bytes ++ versions ++ unread)
  pub len_is : LengthIfLeft e.tx_length len_bytes (versions ++ unread)
  pub versions_are : PairIfLeft 4 999999 e.immediate_server_version e.original_server_version versions unread
  pub others : (e.lc_typecode ≡ 2) × (e.tag ≡ replicate 32 0) × (e.tag_len ≡ 0) × (e.commit_group_ticket ≡ 0)
  pub uses : used ≡ length ((e.flags ∷ []) ++ e.sid ++ gno_bytes ++ (2 ∷ []) ++ last_bytes ++ sequence_bytes ++ timestamps ++ len_bytes ++ versions)

abbrev pub UntaggedLaid : List ℕ → GtidEvent → ℕ → Type 0
UntaggedLaid s e used = ShortLaid s e used ⊎ LongLaid s e used
