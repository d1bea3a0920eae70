-- What was found is refused, or of no use: all devices go back.
use Rattle.std.proofs.Common.{◌≡◌, ◌∙◌, ◌⊎◌, ◌≤◌, ℕ, Bool, true, Some, List, [], ◌∷◌, ◌++◌, map, length, Err, refl, sym, ap, subst, inl, inr, arith}
use Rattle.vx_pages.specs.declared.local_piece.LocalPiece.{Ghosts}
use Rattle.vx_base.specs.Named.{Word}
use Rattle.vx_piece.specs.Seen.{Seen}
use Rattle.vx_rules.specs.Rules.{first_broken}
use Rattle.vx_objects.specs.declared.config.Config.{Config}
use Rattle.vx_objects.specs.Config.{objects_of}
use Rattle.vx_copies.specs.Lists.{AllOf, AnyOf}
use Rattle.vx_copies.specs.declared.disk.Disk.{Disk}
use Rattle.vx_confdb.specs.Texts.{text_of}
use Rattle.vx_import.specs.Answers.{IsOf, Answers, IsGiven}
use Rattle.vx_import.specs.Looks.{Looked, looked}
use Rattle.vx_import.specs.Toggles.{IsOff}
use Rattle.vx_import.specs.declared.device.GroupDevice.{GroupDevice}
use Rattle.vx_import.specs.declared.judging.Given.{Given}
use Rattle.vx_import.specs.declared.judging.ImportFault.{ImportFault}
use Rattle.vx_import.specs.declared.judging.ImportFault.TheVariants as fault
use Rattle.vx_answers.specs.declared.answer.End.{End}
use Rattle.vx_answers.specs.declared.answer.End.TheVariants as ends
use Rattle.vx_answers.specs.declared.refusal.Refusal.{Refusal}
use Rattle.vx_script_words.specs.declared.value.DiskAt.{DiskAt}
use Rattle.vx_stages.specs.Finding.{Finds, import_records}
use Rattle.vx_stages.specs.Refusals.{refusal_from}
use Rattle.vx_moments.specs.Moment.{Moment}
use Rattle.vx_stages.specs.Ends.{RefusedAsLong}
use Rattle.vx_stages.specs.Stages.{ImportReads}
use Rattle.vx_stages.specs.declared.stage.Stage.TheVariants as stage
use Rattle.vx_house.specs.Goes.{StageGoes}
use Rattle.vx_house.specs.Holders.{holders, held_as, volume_at}
use Rattle.vx_house.specs.Scene.{Shelved, seen_in, seen_at, counts_of, FaultsGoOn}
use Rattle.vx_house.specs.View.{IsMoment, at, scene}
use Rattle.vx_house.specs.declared.house.House.{House}
use Rattle.vx_house.specs.declared.stop.Stop.{Stop}
use Rattle.vx_house.specs.declared.stop.Stop.TheVariants as stops
use Rattle.vx_house.proofs.AllLaws.{all_each}
use Rattle.vx_house.proofs.Moments.{faults_moved}
use Rattle.vx_stage_import.specs.Finds.{holders_of, beside, candidates_of, IsOfGroup, AreLooked}
use Rattle.vx_stage_import.specs.Giving.{IsBack, good_looks, disks_in, seen_disks}
use Rattle.vx_stage_import.specs.Importing.{all_read, IsAsked, IsSince, EndIs, StopIs, SearchStops}
use Rattle.vx_stage_import.specs.Judging.{TextJudged, is_started, labels_of}
use Rattle.vx_stage_import.specs.declared.judging.Judged.{Judged}
use Rattle.vx_stage_import.specs.declared.judging.Judged.TheVariants as judged
use Rattle.vx_stage_import.proofs.Counts.{unread_by, found_of, all_linked}
use Rattle.vx_stage_import.proofs.Ends.{starves, loses, refuses}
use Rattle.vx_stage_import.proofs.Goods.{good_few}
use Rattle.vx_stage_import.proofs.Inspections.{few_looked, held_finds}
use Rattle.vx_stage_import.proofs.ReadFinds.{import_reads}
use Rattle.vx_stage_import.proofs.SearchLaws.{since_back, asked_read, asked_reads}
use Rattle.vx_stage_import.proofs.Holders.{found_labels}
use Rattle.vx_stage_import.proofs.Texts.{labels_in}
use Rattle.vx_stage_import.proofs.Tellings.{started_same, refused_finds, fault_finds, given_finds}
use Rattle.vx_house.specs.Reading.{AreRead}
use Rattle.vx_house.specs.Runs.{run_in}
use Rattle.vx_house.proofs.Runs.{all_alone}

-- as many disks at most as devices were found
looks_long : {P : Type 0} (see : P → Seen) (ds : List (GroupDevice P)) → length (map (looked see) ds) ≡ length ds
looks_long see [] = refl
looks_long see (d ∷ ds) = let e = looks_long see ds in omega (arith, e)

made_long : {P : Type 0} (see : P → Seen) (gs : List Looked) (es : List (Disk P)) → seen_disks see es ≡ disks_in gs → length es ≡ length gs
made_long see [] [] is = refl
made_long see [] (e ∷ es) is = cc
made_long see (g ∷ gs) [] is = cc
made_long see (g ∷ gs) (e ∷ es) is = let rest : seen_disks see es ≡ disks_in gs = cc in let n = made_long see gs es rest in omega (arith, n)

pub few_disks : {P : Type 0} (see : P → Seen) (dg : Word) (good : ℕ) (ds : List (GroupDevice P)) (es : List (Disk P)) → AreLooked see dg ds → seen_disks see es ≡ disks_in (good_looks good (map (looked see) ds)) → length es ≤ 32
few_disks see dg good ds es looks made =
    let a = made_long see (good_looks good (map (looked see) ds)) es made in
    let b = good_few good (map (looked see) ds) in
    let c = looks_long see ds in
    let d = few_looked see dg ds looks in omega (arith, a, b, c, d)

module _ {P : Type 0} {ghosts : Ghosts P} (see : P → Seen) (dg : Word) (names : List Word) (disks : List DiskAt) (first now new : Shelved) (h : House P ghosts) (fs : List Looked) (since : IsSince see all_read dg names first now h fs) (back : IsBack (beside now (holders see h) fs) (scene see (at new h))) where
  read : AreRead (scene see (at first h)) (scene see (at new h))
  read = since_back see dg names first now new h fs since back

  reads_back : (m : Moment) (is : IsMoment see (at first h) m) → ImportReads dg m.world m.counts (counts_of (scene see (at new h)))
  reads_back m is = import_reads see dg names first now h fs since m is (scene see (at new h)) (back.moved.seen (since.reads.told is.told))

  -- memory is wanting
  pub starves_back : StageGoes {T = Unit {0}} see (stage.Import dg) disks (Err stops.OutOfMemory) (at first h) (at new h)
  starves_back = starves see dg disks h first new read since.keeps

  later : FaultsGoOn (beside now (holders see h) fs) (scene see (at new h))
  later = faults_moved (beside now (holders see h) fs) (scene see (at new h)) back.moved

  ofs : AllOf (IsOf dg) fs
  ofs = all_each (IsOfGroup dg) (IsOf dg) (λ f of. record { group_is = of.group_is; headed = of.headed }) fs since.each

  -- the text is refused
  pub refused_back : (given : Given) (why : Refusal) → IsGiven dg given fs → TextJudged dg (text_of given.text) given.good (labels_in (candidates_of fs)) (is_started h.volumes) (judged.Refused why) → StageGoes {T = Unit {0}} see (stage.Import dg) disks (Err (stops.Ended (ends.Refused why))) (at first h) (at new h)
  refused_back given why is judges = refuses see dg disks h first new read since.keeps reads_back (ends.Refused why)
      (λ m at_m. record {
        found = found_of see dg names first now h fs since m at_m (scene see (at new h)) later;
        why = why;
        end_is = refl;
        finds = given_finds dg m.world (unread_by fs) fs (all_linked see dg names first now h fs since m at_m) ofs (λ o config. (refusal_from (first_broken (import_records config)) ≡ Some why) ⊎ ((after : Config) × (objects_of after ≡ import_records config) × RefusedAsLong after (ends.Refused why))) (λ r. r ≡ why) given is
            (refused_finds dg (record { sequence = given.sequence; good = given.good; text = text_of given.text }) (candidates_of fs) m.world (is_started h.volumes) (λ name. started_same see (volume_at h name) (m.world.volumes name) (all_alone see h m.world (λ n. ap (λ o. run_in o n) since.none) at_m.volumes_are at_m.runs_are name)) why judges);
      }) tt

  finds_seen : AllOf (λ f. seen_at (beside now (holders see h) fs) f.device ≡ Some f.seen) fs
  finds_seen =
      all_each (λ f. held_as (holders see h ++ holders_of fs) f.device ≡ Some f.seen) (λ f. seen_at (beside now (holders see h) fs) f.device ≡ Some f.seen) (λ f at_f. ap (λ o. seen_in o now.free f.device) at_f) fs (held_finds (holders see h) fs since.held.apart)

  one_off : (gs : List Looked) → AllOf (λ f. seen_at (beside now (holders see h) fs) f.device ≡ Some f.seen) gs → AnyOf IsOff gs → (name : Word) × (seen : Seen) × (seen_at (beside now (holders see h) fs) name ≡ Some seen) × (seen.cut ≡ true)
  one_off [] all any = absurd any
  one_off (g ∷ gs) all (inl off) = (g.device, g.seen, all.0, off)
  one_off (g ∷ gs) all (inr any) = one_off gs all.1 any

  -- the power is gone
  lost_back : AnyOf IsOff fs → StageGoes {T = Unit {0}} see (stage.Import dg) disks (Err (stops.Ended (ends.Lost []))) (at first h) (at new h)
  lost_back off = loses see dg disks h first new read since.keeps reads_back (λ told. let one = one_off fs finds_seen off in (one.0, one.1, back.moved.seen (since.reads.told told) one.0 ∙ one.2, one.3))

  fault_refused : (f : ImportFault) (end : End) → EndIs f dg end → (f ≡ fault.PowerLost → ⊥) → (is_refused : (why : Refusal) × (end ≡ ends.Refused why)) → Answers (Err f) dg fs → StageGoes {T = Unit {0}} see (stage.Import dg) disks (Err (stops.Ended end)) (at first h) (at new h)
  fault_refused f end is on refused answers =
      subst (λ e. StageGoes {T = Unit {0}} see (stage.Import dg) disks (Err (stops.Ended e)) (at first h) (at new h)) (sym refused.1)
      (refuses see dg disks h first new read since.keeps reads_back (ends.Refused refused.0)
      (λ m at_m.
      let told = fault_finds dg m.world (unread_by fs) fs (all_linked see dg names first now h fs since m at_m) ofs (λ o config. (refusal_from (first_broken (import_records config)) ≡ Some refused.0) ⊎ ((after : Config) × (objects_of after ≡ import_records config) × RefusedAsLong after (ends.Refused refused.0))) f (ends.Refused refused.0) (subst (EndIs f dg) refused.1 is) on answers in
      let same : told.0 ≡ refused.0 = let e = told.1 in cc in
      record {
        found = found_of see dg names first now h fs since m at_m (scene see (at new h)) later;
        why = refused.0;
        end_is = refl;
        finds = subst (λ why. Finds dg m.world (unread_by fs) (candidates_of fs) (λ r. r ≡ why) (λ o config. (refusal_from (first_broken (import_records config)) ≡ Some refused.0) ⊎ ((after : Config) × (objects_of after ≡ import_records config) × RefusedAsLong after (ends.Refused refused.0)))) same told.2;
      }) tt)

  fault_ended : (f : ImportFault) (end : End) → EndIs f dg end → Answers (Err f) dg fs → StageGoes {T = Unit {0}} see (stage.Import dg) disks (Err (stops.Ended end)) (at first h) (at new h)
  fault_ended fault.OutOfMemory end is answers = absurd is
  fault_ended fault.PowerLost end is answers = subst (λ e. StageGoes {T = Unit {0}} see (stage.Import dg) disks (Err (stops.Ended e)) (at first h) (at new h)) (sym is) (lost_back answers)
  fault_ended fault.NoGroup end is answers = fault_refused fault.NoGroup end is (λ e. cc) (_, is) answers
  fault_ended (fault.Damaged disk byte) end is answers = fault_refused (fault.Damaged disk byte) end is (λ e. cc) (_, is) answers
  fault_ended (fault.Missing slot text) end is answers = fault_refused (fault.Missing slot text) end is (λ e. cc) (_, is.2) answers

  -- no configuration is there
  pub fault_back : (f : ImportFault) (stop : Stop) → StopIs f dg stop → Answers (Err f) dg fs → StageGoes {T = Unit {0}} see (stage.Import dg) disks (Err stop) (at first h) (at new h)
  fault_back f (stops.Ended end) is answers = fault_ended f end is answers
  fault_back f stops.OutOfMemory is answers = starves_back

-- what was judged, in the words of the devices
pub judged_same : {P : Type 0} (dg : Word) (good : ℕ) (started : Word → Bool) (j : Judged) (text t : List ℕ) (ds xs : List (GroupDevice P)) → t ≡ text → xs ≡ ds → TextJudged dg t good (labels_of xs) started j → TextJudged dg text good (labels_of ds) started j
judged_same {P = P} dg good started j text t ds xs same_text same judges =
    subst (λ (ys : List (GroupDevice P)). TextJudged dg text good (labels_of ys) started j) same (subst (λ s. TextJudged dg s good (labels_of xs) started j) same_text judges)

pub judged_labels : {P : Type 0} (see : P → Seen) (dg : Word) (good : ℕ) (started : Word → Bool) (j : Judged) (text : List ℕ) (ds : List (GroupDevice P)) → TextJudged dg text good (labels_of ds) started j → TextJudged dg text good (labels_in (candidates_of (map (looked see) ds))) started j
judged_labels see dg good started j text ds judges = subst (λ ls. TextJudged dg text good ls started j) (found_labels see ds) judges

-- the search found nothing
pub searched_back : {P : Type 0} {ghosts : Ghosts P} (see : P → Seen) (dg : Word) (names : List Word) (disks : List DiskAt) (first mid new : Shelved) (h : House P ghosts) → IsAsked see names first mid h → AreRead (scene see (at mid h)) (scene see (at new h)) → (stop : Stop) → SearchStops stop names (scene see (at mid h)) (scene see (at new h)) → StageGoes {T = Unit {0}} see (stage.Import dg) disks (Err stop) (at first h) (at new h)
searched_back see dg names disks first mid new h asked read (stops.Ended end) is =
    subst (λ e. StageGoes {T = Unit {0}} see (stage.Import dg) disks (Err (stops.Ended e)) (at first h) (at new h)) (sym is.0)
    (loses see dg disks h first new (asked_read see names first mid new h asked read) asked.keeps (asked_reads see dg names first mid new h asked read is.2) (λ told. is.1 (asked.still.reads.told told)))
searched_back see dg names disks first mid new h asked read stops.OutOfMemory is = starves see dg disks h first new (asked_read see names first mid new h asked read) asked.keeps
