-- What reading a file comes to (`ReadsFiles` of `specs/Files.antt`), of what the calls promise.
use Prim.Native.Nat.{ℕ}
use mathlib.Core.Path.{◌≡◌, sym, ap, ◌∙◌}
use mathlib.Core.Bool.{Bool, true, false}
use mathlib.Core.List.{List, [], ◌∷◌, ◌++◌}
use Rattle.misc.specs.Refusal.{not_a_set}
use Rattle.previous_gtids_event.specs.Entry.{Entry}
use Rattle.gtid_sets.specs.Lent.{Lent, SetLaid}
use Rattle.gtid_sets.proofs.LentLaws.{is-lent}
use Rattle.binlog.specs.Stop.{stop_for}
use Rattle.binlog.specs.Format.{trailer}
use Rattle.binlog.specs.Place.{opening, heading, inside, passing, whole, ended, stopped}
use Rattle.binlog.specs.Run.{at, begin, feed, walking, Word, chunk, end, heard, hear}
use Rattle.binlog.specs.Layout.{Says, EndSays}
use Rattle.binlog.proofs.RunLaws as run
use Rattle.binlog.proofs.SaysLaws.{says_all, says-one}
use Rattle.binlog.proofs.EndSaysLaws.{end-says-all, end-says-one}
use Rattle.binlog_reader.specs.Does.{does}
use Rattle.binlog_reader.specs.Step.{SetRun, begins_at}
use Rattle.binlog_reader.specs.declared.Said.TheVariants.{Ended, Refused}
use Rattle.binlog_laws.specs.Files.{FileRead, read_in, start_of, our_files}
use Rattle.promises.specs.SetFaults.{SetFault}
use Rattle.promises.specs.Files.{ReadsFiles}
use Rattle.promises.proofs.SetsExact.{apart, fault-unfit}

-- bytes that are a set: the run begins before the opening
begins : (set : List ℕ) (s : List Entry) → SetLaid set s → start_of set ≡ begin set
begins set s laid = rw (is-lent set s laid)

-- what was read, but for what is said
abbrev saying : FileRead → ℕ → FileRead
saying x n = record { judged = x.judged; said = Refused n 0; set = x.set }

module _ (room : ℕ) (checksums : Bool) where
  abbrev hears : SetRun → List Word → SetRun
  hears = hear (does room) (trailer checksums)

  no-set : (set : List ℕ) (ws : List Word) → SetFault set 14 → our_files room set checksums ws ≡ record { judged = []; said = Refused 14 0; set = set }
  no-set set ws fault =
      let (_, lent) = fault-unfit set 14 fault in
      ap (λ (l : Lent). read_in (hears (at (begins_at l) set []) ws)) lent
      ∙ ap read_in (run.stays-stopped (does room) (trailer checksums) (stop_for not_a_set) 0 set [] ws)

  in_words : (set : List ℕ) (s : List Entry) (ws : List Word) → SetLaid set s → hears (start_of set) ws ≡ hears (begin set) ws
  in_words set s ws laid = ap (λ (r : SetRun). hears r ws) (begins set s laid)

  says : (set : List ℕ) (s : List Entry) (bs : List ℕ) (r : SetRun) → SetLaid set s → Says (does room) (trailer checksums) set bs r
      → our_files room set checksums (chunk bs ∷ []) ≡ read_in r
  says set s bs r laid h = ap read_in (in_words set s (chunk bs ∷ []) laid ∙ says-one (does room) (trailer checksums) set h)

  end_says : (set : List ℕ) (s : List Entry) (bs : List ℕ) (r : SetRun) → SetLaid set s → EndSays (does room) (trailer checksums) set bs r
      → our_files room set checksums (chunk bs ∷ end ∷ []) ≡ read_in r
  end_says set s bs r laid h = ap read_in (in_words set s (chunk bs ∷ end ∷ []) laid ∙ end-says-one (does room) (trailer checksums) set h)

  -- ---- what repeats

  append : (set : List ℕ) (us ws : List Word) → hears (start_of set) (us ++ ws) ≡ hears (hears (start_of set) us) ws
  append set us ws = run.hear-append (does room) (trailer checksums) (start_of set) us ws

  twice : (set : List ℕ) (ws : List Word) → our_files room set checksums (ws ++ end ∷ end ∷ []) ≡ our_files room set checksums (ws ++ end ∷ [])
  twice set ws =
      ap read_in (append set ws (end ∷ end ∷ [])
      ∙ run.end_again (does room) (trailer checksums) (hears (start_of set) ws) ∙ sym (append set ws (end ∷ [])))

  -- bytes behind the end, of a run that has ended
  past : (r : SetRun) (b : ℕ) (bs : List ℕ) → (read_in r).said ≡ Ended → read_in (feed (does room) (trailer checksums) r (b ∷ bs)) ≡ saying (read_in r) 18
  past (at ended set js) b bs e = ap read_in (run.after-end (does room) (trailer checksums) set js b bs)
  past (at (opening n) set js) b bs e = apart cc
  past (at (heading came) set js) b bs e = apart cc
  past (at (inside type n came) set js) b bs e = apart cc
  past (at (passing n) set js) b bs e = apart cc
  past (at (whole type body) set js) b bs e = apart cc
  past (at (stopped x n) set js) b bs e = apart cc

  behind : (set : List ℕ) (ws : List Word) (b : ℕ) (bs : List ℕ) → (our_files room set checksums (ws ++ end ∷ [])).said ≡ Ended
      → our_files room set checksums (ws ++ end ∷ chunk (b ∷ bs) ∷ []) ≡ saying (our_files room set checksums (ws ++ end ∷ [])) 18
  behind set ws b bs e =
      let before = append set ws (end ∷ []) in
      ap read_in (append set ws (end ∷ chunk (b ∷ bs) ∷ []))
      ∙ past (heard (does room) (trailer checksums) (hears (start_of set) ws) end) b bs (sym (ap (λ (r : SetRun). (read_in r).said) before) ∙ e)
      ∙ ap (λ (r : SetRun). saying (read_in r) 18) (sym before)

  -- whatever comes behind a refusal
  refuses : (r : SetRun) (ws : List Word) (n len : ℕ) → (read_in r).said ≡ Refused n len → hears r ws ≡ r
  refuses (at (stopped x m) set js) ws n len e = run.stays-stopped (does room) (trailer checksums) x m set js ws
  refuses (at (opening m) set js) ws n len e = apart cc
  refuses (at (heading came) set js) ws n len e = apart cc
  refuses (at (inside type m came) set js) ws n len e = apart cc
  refuses (at (passing m) set js) ws n len e = apart cc
  refuses (at (whole type body) set js) ws n len e = apart cc
  refuses (at ended set js) ws n len e = apart cc

pub reads-files : (room : ℕ) (set : List ℕ) (checksums : Bool) → ReadsFiles room set checksums (our_files room set checksums)
reads-files room set checksums = record {
  start = no-set room checksums set;
  comes = λ s bs laid. (
    walking (does room) (trailer checksums) set bs false,
    says_all (does room) (trailer checksums) set bs,
    ap read_in (in_words room checksums set s (chunk bs ∷ []) laid),
  );
  says = says room checksums set;
  ends = λ s bs laid. (
    walking (does room) (trailer checksums) set bs true,
    end-says-all (does room) (trailer checksums) set bs,
    ap read_in (in_words room checksums set s (chunk bs ∷ end ∷ []) laid),
  );
  end_says = end_says room checksums set;
  cut = λ us ws same. ap read_in (run.cut-anywhere (does room) (trailer checksums) (start_of set) us ws same);
  end_again = twice room checksums set;
  behind_end = behind room checksums set;
  stays = λ us ws n len e.
      ap read_in (append room checksums set us ws ∙ refuses room checksums (hear (does room) (trailer checksums) (start_of set) us) ws n len e);
}
