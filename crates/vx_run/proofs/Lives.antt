-- A house in which one volume has lived on.
use Rattle.std.proofs.Common.{◌≡◌, ◌∙◌, ◌+◌, ◌≤◌, ℕ, Bool, true, false, cond, ◌||◌, List, [], ◌∷◌, ◌++◌, map, Option, Some, None, refl, sym, ap, subst, arith, append_assoc, inl}
use Rattle.std.specs.Prelude.{IsTrue, MatchOption, MatchBool, nat_lt}
use Rattle.std.specs.List.{list_any}
use Rattle.std.specs.List.Sorted.{IsStrictlySortedBy}
use Rattle.std.specs.Str.{bytes_eq}
use Rattle.std.specs.BTreeMap.{BTreeMap, is_at}
use Rattle.std.specs.Cmp.Lexicographic.{slice_cmp}
use Rattle.std.specs.Map.{keys_of}
use Rattle.std.specs.Ordering.{nat_cmp}
use Rattle.std.proofs.lemmas.Bool.{le-ltb, cond-true, cond-false}
use Rattle.std.proofs.lemmas.List.{map-append}
use Rattle.std.proofs.lemmas.Map.{keys-set_value}
use Rattle.vx_pages.specs.declared.local_piece.LocalPiece.{Ghosts}
use Rattle.vx_base.specs.Counts.{Rose}
use Rattle.vx_base.specs.Named.{Word, put}
use Rattle.vx_base.proofs.NamedLemmas.{bytes_eq_self, bytes_eq_same}
use Rattle.vx_piece.specs.Seen.{Seen}
use Rattle.vx_life.specs.Life.{Life}
use Rattle.vx_script_forms.specs.declared.call.Call.{Call}
use Rattle.vx_started.specs.declared.started.Started.{Started}
use Rattle.vx_started.specs.Stands.{StandsFor, IsSized, EndHasCause}
use Rattle.vx_answers.specs.declared.answer.End.{End}
use Rattle.vx_answers.specs.declared.answer.End.TheVariants as ends
use Rattle.vx_answers.specs.declared.refusal.Refusal.TheVariants.{NotStarted, Range}
use Rattle.vx_moments.specs.Moment.{Moment, AreLater, Rests}
use Rattle.vx_moments.specs.World.{World, Device, Volume, OnDevice}
use Rattle.vx_stages.specs.Calls.{volume_of, start_of, count_of, reads_of, writes_of, Lives, LiesOn, HasCause, CallsOnce, IsServed}
use Rattle.vx_plans.specs.Serving.{CallRuns, ServesOn}
use Rattle.vx_house.specs.Holders.{Holder, holders, volume_holder, group_holders, hand_holder, volume_at, AreHeld, AreApart}
use Rattle.vx_house.specs.Scene.{Shelved, Scene, seen_at, faults_at, faults_in, count_in, FaultsGoOn, IsBlamed}
use Rattle.vx_house.specs.View.{at, scene, is_lent, IsDeviceOf, IsVolumeOf, IsAtVolume, IsMoment, Keeps}
use Rattle.vx_house.specs.declared.house.House.{House}
use Rattle.vx_house.proofs.LaterFaults.{seen_here, faults_here, faults_now, seen_called, held_called, faults_called, places_called, later_one}
use Rattle.vx_house.proofs.Holders.{IsLater, held_at, later_apart, not_both}
use Rattle.vx_house.proofs.Moments.{counts_own, counts_later, moment_at, PlaceGoesOn}
use Rattle.vx_house.proofs.Scenes.{scene_of}
use Rattle.vx_run.specs.Calling.{IsServedAmong}
use Rattle.vx_house_calls.proofs.Entries.{IsSetAt, set_at}
use Rattle.vx_moments.specs.Leaving.{lone, grouped}
use Rattle.vx_moments.proofs.Lone.{lone_on, grouped_on}
use Rattle.vx_house.specs.Runs.{IsAtRun, fronts_in, run_in}
use Rattle.vx_house.proofs.Free.{at_lone}

-- a device is lent as before where the volume has the same one
lent_same : {P : Type 0} (before behind : List (Word × Started P)) (key : Word) (b later : Started P) (name : Word) → later.device ≡ b.device → list_any (λ e. bytes_eq e.1.device name) (before ++ (key, later) ∷ behind) ≡ list_any (λ e. bytes_eq e.1.device name) (before ++ (key, b) ∷ behind)
lent_same [] behind key b later name same = ap (λ n. bytes_eq n name || list_any (λ e. bytes_eq e.1.device name) behind) same
lent_same (e ∷ before) behind key b later name same = ap (λ x. bytes_eq e.1.device name || x) (lent_same before behind key b later name same)

lent_here : {P : Type 0} (before behind : List (Word × Started P)) (key : Word) (b : Started P) → list_any (λ e. bytes_eq e.1.device b.device) (before ++ (key, b) ∷ behind) ≡ true
lent_here [] behind key b = by (bytes_eq b.device b.device) (bytes_eq_self b.device)
  where
    by : (x : Bool) → x ≡ true → (x || list_any (λ e. bytes_eq e.1.device b.device) behind) ≡ true
    by true is = refl
    by false is = cc
lent_here (e ∷ before) behind key b = by (bytes_eq e.1.device b.device) (lent_here before behind key b)
  where
    by : (x : Bool) → list_any (λ e. bytes_eq e.1.device b.device) (before ++ (key, b) ∷ behind) ≡ true → (x || list_any (λ e. bytes_eq e.1.device b.device) (before ++ (key, b) ∷ behind)) ≡ true
    by true is = refl
    by false is = is

module _ {P : Type 0} {ghosts : Ghosts P} (see : P → Seen) (shelf : Shelved) (h : House P ghosts) (volumes : BTreeMap Word (Started P)) (call : Call) (b : Started P) (end : End)
    (found : volume_at h (volume_of call) ≡ Some b) (among : IsServedAmong see call b end h.volumes volumes) (keeps : Keeps see (at shelf h)) where
  abbrev pub later : Started P
  later = among.later

  abbrev pub k : House P ghosts
  k = record { volumes = volumes; group = h.group; hand = h.hand }

  spot : IsSetAt h.volumes.entries volumes.entries b later
  spot = let e = set_at (is_at (slice_cmp nat_cmp (volume_of call))) b later h.volumes.entries found in record { key = e.key; before = e.before; behind = e.behind; was = e.was; is = among.entries ∙ e.is }

  abbrev one : Holder
  one = record { name = b.device; seen = see b.piece }

  abbrev two : Holder
  two = record { name = later.device; seen = see later.piece }

  abbrev xs : List Holder
  xs = map (volume_holder see) spot.before

  abbrev ys : List Holder
  ys = map (volume_holder see) spot.behind ++ (group_holders see h.group ++ map (hand_holder see) h.hand.items)

  round : (es : List (Word × Started P)) (x : Started P) → es ≡ spot.before ++ (spot.key, x) ∷ spot.behind → map (volume_holder see) es ++ (group_holders see h.group ++ map (hand_holder see) h.hand.items) ≡ xs ++ record { name = x.device; seen = see x.piece } ∷ ys
  round es x is =
      ap (λ es. map (volume_holder see) es ++ (group_holders see h.group ++ map (hand_holder see) h.hand.items)) is
      ∙ ap (λ hs. hs ++ (group_holders see h.group ++ map (hand_holder see) h.hand.items)) (map-append (volume_holder see) spot.before ((spot.key, x) ∷ spot.behind))
      ∙ append_assoc xs (record { name = x.device; seen = see x.piece } ∷ map (volume_holder see) spot.behind) (group_holders see h.group ++ map (hand_holder see) h.hand.items)

  were : holders see h ≡ xs ++ one ∷ ys
  were = round h.volumes.entries b spot.was

  are : holders see k ≡ xs ++ two ∷ ys
  are = round volumes.entries later spot.is

  same : IsLater one two
  same = record { name = among.served.same.0; kept = among.served.kept }

  apart : AreApart (xs ++ one ∷ ys)
  apart = subst AreApart were keeps.devices.apart

  abbrev pub old : Scene
  old = scene see (at shelf h)

  abbrev pub new : Scene
  new = scene see (at shelf k)

  -- what is seen, and the faults
  seen_now : (name : Word) → seen_at new name ≡ cond (bytes_eq b.device name) (Some (see later.piece)) (seen_at old name)
  seen_now name =
      ap (λ hs. seen_at (scene_of shelf hs) name) are
      ∙ seen_called shelf xs one two ys apart same name
      ∙ ap (λ hs. cond (bytes_eq b.device name) (Some (see later.piece)) (seen_at (scene_of shelf hs) name)) (sym were)

  seen_before : seen_at old b.device ≡ Some (see b.piece)
  seen_before = ap (λ hs. seen_at (scene_of shelf hs) b.device) were ∙ seen_here shelf xs one two ys apart same

  faults_before : faults_at old b.device ≡ (see b.piece).faults
  faults_before = ap (λ hs. faults_at (scene_of shelf hs) b.device) were ∙ faults_here shelf xs one two ys apart same

  faults_after : faults_at new b.device ≡ (see later.piece).faults
  faults_after = ap (λ hs. faults_at (scene_of shelf hs) b.device) are ∙ faults_now shelf xs one two ys apart same

  faults_else : (name : Word) → bytes_eq b.device name ≡ false → faults_at new name ≡ faults_at old name
  faults_else name e =
      let apart' : AreApart (xs ++ two ∷ ys) = later_apart (xs ++ one ∷ ys) (xs ++ two ∷ ys) (later_one xs one two ys same) apart in
      ap (λ hs. faults_at (scene_of shelf hs) name) are
      ∙ ap (λ o. faults_in o (shelf.counted name)) (held_at xs two ys name apart' ∙ cond-false _ _ _ (ap (λ n. bytes_eq n name) among.served.same.0 ∙ e))
      ∙ sym (ap (λ o. faults_in o (shelf.counted name)) (held_at xs one ys name apart ∙ cond-false _ _ _ e))
      ∙ sym (ap (λ hs. faults_at (scene_of shelf hs) name) were)

  pub lived_faults : FaultsGoOn old new
  lived_faults = subst (λ hs. FaultsGoOn (scene_of shelf hs) new) (sym were) (subst (λ hs. FaultsGoOn (scene_of shelf (xs ++ one ∷ ys)) (scene_of shelf hs)) (sym are) (faults_called shelf xs one two ys apart same))

  volume_kept : (vol : Word) (c : Started P) (t : Bool) → cond t (Some later) (volume_at h vol) ≡ Some c → IsSized (see c.piece) c.geometry.length
  volume_kept vol c true is =
      let e : later ≡ c = cc in
      subst (λ (x : Started P). IsSized (see x.piece) x.geometry.length) e (among.served.kept.sectors ∙ keeps.house.volumes (volume_of call) b found ∙ ap (λ g. g.length) (sym among.served.same.1))
  volume_kept vol c false is = keeps.house.volumes vol c is

  pub lived_keeps : Keeps see (at shelf k)
  lived_keeps = record {
    devices = subst (AreHeld shelf.held) (sym are) (held_called shelf xs one two ys apart same shelf.held (subst (AreHeld shelf.held) were keeps.devices));
    house = record {
      ordered = subst (IsStrictlySortedBy (slice_cmp nat_cmp)) (sym (ap keys_of among.entries ∙ keys-set_value (is_at (slice_cmp nat_cmp (volume_of call))) h.volumes.entries later)) keeps.house.ordered;
      hand = keeps.house.hand;
      volumes = λ vol c is. volume_kept vol c (bytes_eq (volume_of call) vol) (sym (among.puts vol) ∙ is);
      group = keeps.house.group;
    };
  }

  -- a fault or a loss is laid to the device
  pub lived_blamed : (e : End) → EndHasCause b.device e (see b.piece) (see later.piece) → IsBlamed e old new
  lived_blamed (ends.Done copied parts blocks) cause = tt
  lived_blamed (ends.Refused r) cause = tt
  lived_blamed ends.ShelfFailed cause = absurd cause
  lived_blamed ends.GroupLost cause = tt
  lived_blamed (ends.Lost parts) cause = tt
  lived_blamed (ends.Fault told device parts) cause =
      inl (subst (λ d. Rose (faults_at old d) (faults_at new d)) (sym cause.0) (subst (λ n. Rose n (faults_at new b.device)) (sym faults_before) (subst (λ n. Rose (see b.piece).faults n) (sym faults_after) cause.1)))

  module _ (m : Moment) (is : IsMoment see (at shelf h) m) where
    pub there : (v : Volume) × (m.world.volumes (volume_of call) ≡ Some v) × IsVolumeOf see b v
    there = at_lone see b (m.world.volumes (volume_of call)) (subst (λ o. IsAtVolume see o (lone (m.world.volumes (volume_of call)))) found (is.volumes_are (volume_of call)))

    abbrev pub v : Volume
    v = there.0

    pub lived : (place : ℕ) → (life : Life) × Lives place call v end life × StandsFor v.length (see later.piece) later.numbers.items life
    lived place = among.served.lives v (record { lies = there.2.lies; length_is = there.2.length_is; region_is = there.2.region_is }) place there.2.stands

    module _ (place : ℕ) where
      abbrev pub after : World
      after = record m.world { volumes = put (volume_of call) (Some (record v { life = (lived place).0 })) m.world.volumes }

      abbrev pub n : Moment
      n = moment_at after new

      device_now : (name : Word) (t : Bool) → bytes_eq b.device name ≡ t → IsDeviceOf (is_lent h name) (cond t (Some (see later.piece)) (seen_at old name)) (m.world.devices name)
      device_now name false e = is.devices_are name
      device_now name true e =
          let named : b.device ≡ name = bytes_eq_same b.device name e in
          let lent : is_lent h b.device ≡ true = ap (λ es. list_any (λ x. bytes_eq x.1.device b.device) es) spot.was ∙ lent_here spot.before spot.behind spot.key b in
          sized (m.world.devices name) (is_lent h name) (subst (λ d. is_lent h d ≡ true) named lent) (subst (λ o. IsDeviceOf (is_lent h name) o (m.world.devices name)) (subst (λ d. seen_at old d ≡ Some (see b.piece)) named seen_before) (is.devices_are name))
        where
          sized : (o : Option Device) (lent : Bool) → lent ≡ true → IsDeviceOf lent (Some (see b.piece)) o → IsDeviceOf lent (Some (see later.piece)) o
          sized None lent is of = absurd of
          sized (Some d) lent held of = (of.0 ∙ sym among.served.kept.sectors, λ free. absurd (not_both lent held free))

      volume_now : (vol : Word) (t : Bool) → IsAtVolume see (cond t (Some later) (volume_at h vol)) (lone (cond t (Some (let x : Volume = record v { life = (lived place).0 } in x)) (m.world.volumes vol)))
      volume_now vol true = subst (IsAtVolume see (Some later)) (sym (lone_on (let x : Volume = record v { life = (lived place).0 } in x) b.device there.2.lies)) (record {
        lies = there.2.lies ∙ ap OnDevice (sym among.served.same.0);
        length_is = there.2.length_is ∙ ap (λ g. g.length) (sym among.served.same.1);
        region_is = there.2.region_is ∙ ap (λ g. g.region) (sym among.served.same.1);
        stands = (lived place).2;
      })
      volume_now vol false = is.volumes_are vol

      -- the volumes of the group run as before
      run_now : (name : Word) (t : Bool) → bytes_eq (volume_of call) name ≡ t → IsAtRun see (fronts_in see h.group) m.world.group name (run_in h.group name) (grouped (cond t (Some (let x : Volume = record v { life = (lived place).0 } in x)) (m.world.volumes name)))
      run_now name false e = is.runs_are name
      run_now name true e =
          let same : volume_of call ≡ name = bytes_eq_same (volume_of call) name e in
          let was : grouped (m.world.volumes name) ≡ None = ap (λ (n : Word). grouped (m.world.volumes n)) (sym same) ∙ ap grouped there.1 ∙ grouped_on v b.device there.2.lies in
          subst (IsAtRun see (fronts_in see h.group) m.world.group name (run_in h.group name)) (was ∙ sym (grouped_on (let x : Volume = record v { life = (lived place).0 } in x) b.device there.2.lies)) (is.runs_are name)

      pub lived_moment : IsMoment see (at shelf k) n
      lived_moment = record {
        told = is.told;
        devices_are = λ name. subst (λ t. IsDeviceOf t (seen_at new name) (m.world.devices name)) (sym (ap (λ es. list_any (λ e. bytes_eq e.1.device name) es) spot.is ∙ lent_same spot.before spot.behind spot.key b later name among.served.same.0 ∙ sym (ap (λ es. list_any (λ e. bytes_eq e.1.device name) es) spot.was)))
            (subst (λ o. IsDeviceOf (is_lent h name) o (m.world.devices name)) (sym (seen_now name)) (device_now name (bytes_eq b.device name) refl));
        volumes_are = λ vol. subst (λ o. IsAtVolume see o (lone (after.volumes vol))) (sym (among.puts vol)) (volume_now vol (bytes_eq (volume_of call) vol));
        runs_are = λ name. run_now name (bytes_eq (volume_of call) name) refl;
        group_is = is.group_is;
        counts = counts_own new;
      }

      pub lived_later : AreLater m.counts n.counts
      lived_later = counts_later old new m.counts is.counts
          (subst (λ hs. (name : Word) → PlaceGoesOn (seen_at (scene_of shelf hs) name) (seen_at new name)) (sym were) (subst (λ hs. (name : Word) → PlaceGoesOn (seen_at (scene_of shelf (xs ++ one ∷ ys)) name) (seen_at (scene_of shelf hs) name)) (sym are) (places_called shelf xs one two ys apart same among.served.kept.cut)))
          lived_faults

      -- counts of the device
      lies_here : (name : Word) → LiesOn v.lies name → b.device ≡ name
      lies_here name lies = subst (λ l. LiesOn l name) there.2.lies lies

      not_here : (name : Word) → (LiesOn v.lies name → ⊥) → bytes_eq b.device name ≡ false
      not_here name away = by (bytes_eq b.device name) refl
        where
          by : (t : Bool) → bytes_eq b.device name ≡ t → bytes_eq b.device name ≡ false
          by false e = e
          by true e = absurd (away (subst (λ l. LiesOn l name) (sym there.2.lies) (bytes_eq_same b.device name e)))

      seen_after : seen_at new b.device ≡ Some (see later.piece)
      seen_after = seen_now b.device ∙ cond-true _ _ _ (bytes_eq_self b.device)

      count_else : {X : Type 0} (count : Seen → X) (none : X) (name : Word) → bytes_eq b.device name ≡ false → count_in count none (seen_at new name) ≡ count_in count none (seen_at old name)
      count_else count none name e = ap (count_in count none) (seen_now name ∙ cond-false _ _ _ e)

      quiet : (see later.piece).faults ≡ (see b.piece).faults → (name : Word) (t : Bool) → bytes_eq b.device name ≡ t → n.counts.faults name ≡ m.counts.faults name
      quiet still name false e = faults_else name e ∙ sym (is.counts.faults name)
      quiet still name true e = subst (λ d. faults_at new d ≡ m.counts.faults d) (bytes_eq_same b.device name e) (faults_after ∙ still ∙ sym faults_before ∙ sym (is.counts.faults b.device))

      cause_of : (e : End) → EndHasCause b.device e (see b.piece) (see later.piece) → HasCause v m.counts n.counts e
      cause_of (ends.Done copied parts blocks) cause = record { devices = λ name. quiet cause name (bytes_eq b.device name) refl; shelf = sym is.counts.shelf }
      cause_of (ends.Refused r) cause = absurd cause
      cause_of ends.ShelfFailed cause = absurd cause
      cause_of ends.GroupLost cause = absurd cause
      cause_of (ends.Fault told device parts) cause =
          subst (λ d. Rose (m.counts.faults d) (faults_at new d)) (sym cause.0) (subst (λ x. Rose x (faults_at new b.device)) (sym (is.counts.faults b.device ∙ faults_before)) (subst (λ x. Rose (see b.piece).faults x) (sym faults_after) cause.1))
      cause_of (ends.Lost parts) cause = (b.device, subst (λ l. LiesOn l b.device) (sym there.2.lies) refl, ap (count_in (λ (seen : Seen). seen.cut) false) seen_after ∙ is_true (see later.piece).cut cause)
        where
          is_true : (t : Bool) → IsTrue t → t ≡ true
          is_true true t = refl
          is_true false t = cc

      calls_once : CallsOnce call v m.counts n.counts
      calls_once = record {
        reads = λ name lies. subst (λ d. n.counts.reads d ≤ m.counts.reads d + reads_of call) (lies_here name lies)
            (let x : n.counts.reads b.device ≡ (see later.piece).reads = ap (count_in (λ (seen : Seen). seen.reads) 0) seen_after in let y : m.counts.reads b.device ≡ (see b.piece).reads = is.counts.reads b.device ∙ ap (count_in (λ (seen : Seen). seen.reads) 0) seen_before in omega (arith, x, y, among.served.calls.reads));
        writes = λ name lies. subst (λ d. n.counts.writes d ≤ m.counts.writes d + writes_of call) (lies_here name lies)
            (let x : n.counts.writes b.device ≡ (see later.piece).writes = ap (count_in (λ (seen : Seen). seen.writes) 0) seen_after in let y : m.counts.writes b.device ≡ (see b.piece).writes = is.counts.writes b.device ∙ ap (count_in (λ (seen : Seen). seen.writes) 0) seen_before in omega (arith, x, y, among.served.calls.writes));
        others = λ name away. (
          count_else (λ (seen : Seen). seen.reads) 0 name (not_here name away) ∙ sym (is.counts.reads name),
          count_else (λ (seen : Seen). seen.writes) 0 name (not_here name away) ∙ sym (is.counts.writes name),
        );
      }

      -- the call runs so
      pub lived_runs : start_of call + count_of call ≤ b.geometry.length → CallRuns place call m end n
      lived_runs within =
          let inside : start_of call + count_of call ≤ v.length = subst (λ x. start_of call + count_of call ≤ x) (sym there.2.length_is) within in
          subst (λ o. MatchOption o ((end ≡ ends.Refused (NotStarted (volume_of call))) × Rests m n) (λ u. MatchBool (nat_lt u.length (start_of call + count_of call)) ((end ≡ ends.Refused Range) × Rests m n) (ServesOn u.lies place call u m end n))) (sym there.1)
          (subst (λ t. MatchBool t ((end ≡ ends.Refused Range) × Rests m n) (ServesOn v.lies place call v m end n)) (sym (le-ltb v.length (start_of call + count_of call) inside))
          (subst (λ l. ServesOn l place call v m end n) (sym there.2.lies) served))
        where
          served : IsServed place call v m end n
          served = record { life = (lived place).0; lives = (lived place).1; world = refl; cause = cause_of end among.served.cause; calls = calls_once }
