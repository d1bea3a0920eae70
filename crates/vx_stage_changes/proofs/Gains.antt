-- What the imported group keeps once a device has joined it.
use Rattle.std.proofs.Common.{◌≡◌, ◌≢◌, ◌∙◌, ℕ, ◌+◌, ◌==◌, ◌||◌, Bool, true, false, List, [], ◌∷◌, ◌++◌, map, take, drop, refl, sym, ap, subst}
use Rattle.std.specs.List.{list_any}
use Rattle.std.proofs.lemmas.Bool.{eq-eqb}
use Rattle.std.proofs.lemmas.List.{take-append-drop}
use Rattle.vx_pages.specs.declared.local_piece.LocalPiece.{Ghosts}
use Rattle.vx_piece.specs.Seen.{Seen}
use Rattle.vx_config_parts.specs.declared.disk.Disk.{Disk as Record}
use Rattle.vx_copies.specs.Disks.{DiskSeen, disk_seen, CommitGoes}
use Rattle.vx_copies.specs.Lists.{AllOf}
use Rattle.vx_copies.specs.declared.disk.Disk.{Disk}
use Rattle.vx_confdb.specs.Create.{Joins}
use Rattle.vx_confdb.specs.Groups.{CarriesText}
use Rattle.vx_script_words.specs.declared.value.DiskAt.{DiskAt}
use Rattle.vx_moments.specs.Copies.{IsTextOf}
use Rattle.vx_stages.specs.Records.{disk_record}
use Rattle.vx_house.specs.Scene.{Shelved}
use Rattle.vx_house.specs.View.{IsGroupKept, AreSized, HaveSlots, AreRecorded}
use Rattle.vx_house.specs.declared.house.House.{House}
use Rattle.vx_house.specs.declared.house.Imported.{Imported}
use Rattle.vx_house.specs.declared.house.Taken.{Taken}
use Rattle.vx_house.proofs.AllLaws.{all_append, all_mapped, all_unmapped}
use Rattle.vx_stage_changes.proofs.Admitted.{IsAdmitted, bs, fs, goes, goes_fronts, hs, joins, joins_fronts, js, kept, ks, n, ns, whole, whole_entered, wholes_now, ws}
use Rattle.vx_stage_changes.proofs.Admission.{all_held, same_name, slots_more}
use Rattle.vx_stage_changes.proofs.JoinedRuns.{places_joined}
use Rattle.vx_stage_changes.specs.Joining.{disk_for}
use Rattle.vx_stage_changes.proofs.Room.{unrecorded}
use Rattle.vx_house.proofs.Lists.{each_append}
use Rattle.vx_stage_changes.proofs.Configs.{joined_disks}
use Rattle.vx_stage_changes.proofs.CommitSlots.{AreSlotted, slots_kept, slotted}
use Rattle.vx_copies.proofs.StepLaws.{each_map}
use Rattle.vx_copies.proofs.ToggleOrder.{each_all}

unslotted : {P : Type 0} (see : P → Seen) (ds : List (Disk P)) → AreSlotted (map (disk_seen see) ds) → HaveSlots ds
unslotted see [] slots = tt
unslotted see (d ∷ ds) slots = (all_unmapped (λ e. e.slot ≢ d.slot) (disk_seen see) ds slots.0, unslotted see ds slots.1)

any_more : (slot : ℕ) (xs ys : List Record) → list_any (λ r. r.slot == slot) xs ≡ true → list_any (λ r. r.slot == slot) (xs ++ ys) ≡ true
any_more slot [] ys e = absurd (cc)
any_more slot (x ∷ xs) ys e = by (x.slot == slot) e (any_more slot xs ys)
  where
    by : (b : Bool) → (b || list_any (λ r. r.slot == slot) xs) ≡ true → (list_any (λ r. r.slot == slot) xs ≡ true → list_any (λ r. r.slot == slot) (xs ++ ys) ≡ true) → (b || list_any (λ r. r.slot == slot) (xs ++ ys)) ≡ true
    by true e rest = refl
    by false e rest = rest e

any_last : (slot : ℕ) (xs : List Record) (y : Record) → (y.slot == slot) ≡ true → list_any (λ r. r.slot == slot) (xs ++ y ∷ []) ≡ true
any_last slot [] y e = ap (λ b. b || false) e
any_last slot (x ∷ xs) y e = by (x.slot == slot) (any_last slot xs y e)
  where
    by : (b : Bool) → list_any (λ r. r.slot == slot) (xs ++ y ∷ []) ≡ true → (b || list_any (λ r. r.slot == slot) (xs ++ y ∷ [])) ≡ true
    by true rest = refl
    by false rest = rest

module _ {P : Type 0} {ghosts : Ghosts P} {see : P → Seen} {shelf : Shelved} {pair : DiskAt} {old now : House P ghosts} {g g' : Imported P ghosts} {t : Taken P} {slot : ℕ} {text : List ℕ} (a : IsAdmitted see shelf pair old now g g' t slot text g'.config) (carries : CarriesText see (g.base.sequence + 1) text g'.base) where
  abbrev added : Record
  added = disk_record pair slot (see t.piece).sectors

  disks_are : g'.config.disks ≡ g.config.disks ++ added ∷ []
  disks_are = joined_disks added g.config g'.config a.join.meant.edited

  -- what holds of the fronts before holds of those now
  over : (Q : DiskSeen → Type 0) → ((x y : DiskSeen) → CommitGoes (g.base.sequence + 1) g'.base.sequence text x y → Q x → Q y) → ((x y : DiskSeen) → Joins g.base.name text x y → Q x → Q y) → AllOf Q (fs a) → AllOf Q (js a) → AllOf Q (ns a)
  over Q goes joins one two =
      subst (AllOf Q) (take-append-drop (n a) (ns a)) (all_append Q (take (n a) (ns a)) (drop (n a) (ns a)) (each_all (CommitGoes (g.base.sequence + 1) g'.base.sequence text) Q Q goes (fs a) (take (n a) (ns a)) (goes_fronts a) one) (each_all (Joins g.base.name text) Q Q joins (js a) (drop (n a) (ns a)) (joins_fronts a) two))

  -- and so with their whole devices
  sized_now : AreSized (ws a)
  sized_now =
      subst AreSized (whole a) (all_append (λ h. h.seen.sectors ≡ h.sectors) (bs a) (ks a)
      (each_all (CommitGoes (g.base.sequence + 1) g'.base.sequence text) (λ h. h.seen.sectors ≡ h.sectors) (λ h. h.seen.sectors ≡ h.sectors) (λ x y goes same. goes.kept.sectors ∙ same ∙ sym goes.size) (hs a) (bs a) (goes a) (kept a).sized)
      (each_all (Joins g.base.name text) (λ h. h.seen.sectors ≡ h.sectors) (λ h. h.seen.sectors ≡ h.sectors) (λ x y joins same. joins.kept.sectors ∙ same ∙ sym joins.size) (js a) (ks a) (joins a) (refl, tt)))

  slots_before : AreSlotted (fs a ++ js a)
  slots_before = slots_more (disk_seen see (disk_for see pair slot t)) (fs a) (all_held see slot g.base.disks.items (unrecorded g.config slot g.base.disks.items (kept a).recorded a.join.slotted.free)) (slotted see g.base.disks.items (kept a).slots)

  slots_now : AreSlotted (ns a)
  slots_now = subst AreSlotted (take-append-drop (n a) (ns a)) (slots_kept (fs a ++ js a) (take (n a) (ns a) ++ drop (n a) (ns a))
      (each_append (λ x y. y.slot ≡ x.slot) (fs a) (take (n a) (ns a)) (js a) (drop (n a) (ns a))
      (each_map (CommitGoes (g.base.sequence + 1) g'.base.sequence text) (λ x y. y.slot ≡ x.slot) (λ x y goes. goes.slot) (fs a) (take (n a) (ns a)) (goes_fronts a))
      (each_map (Joins g.base.name text) (λ x y. y.slot ≡ x.slot) (λ x y joins. joins.slot) (js a) (drop (n a) (ns a)) (joins_fronts a))) slots_before)

  pub kept_joined : IsGroupKept see g'
  kept_joined = record {
    named = a.taken.name ∙ sym (same_name a);
    text = subst (IsTextOf g'.config) (sym carries.holds) a.join.meant.printed.0;
    first = g.base.sequence + 1;
    carries = subst (λ t. CarriesText see (g.base.sequence + 1) t g'.base) (sym carries.holds) carries;
    sized = subst AreSized (sym (wholes_now a)) sized_now;
    slots = unslotted see g'.base.disks.items slots_now;
    recorded = all_unmapped (λ h. list_any (λ r. r.slot == h.slot) g'.config.disks ≡ true) (disk_seen see) g'.base.disks.items
        (over (λ h. list_any (λ r. r.slot == h.slot) g'.config.disks ≡ true) (λ x y goes is. ap (λ m. list_any (λ r. r.slot == m) g'.config.disks) goes.slot ∙ is) (λ x y joins is. ap (λ m. list_any (λ r. r.slot == m) g'.config.disks) joins.slot ∙ is)
        (all_mapped (λ h. list_any (λ r. r.slot == h.slot) g'.config.disks ≡ true) (disk_seen see) g.base.disks.items (first_recorded g.base.disks.items (kept a).recorded))
        (ap (λ l. list_any (λ r. r.slot == slot) l) disks_are ∙ any_last slot g.config.disks added (eq-eqb slot slot refl), tt));
    whole = whole_entered a;
    placed = places_joined a;
  }
    where
      first_recorded : (ds : List (Disk P)) → AreRecorded g.config ds → AllOf (λ d. list_any (λ r. r.slot == d.slot) g'.config.disks ≡ true) ds
      first_recorded [] all = tt
      first_recorded (d ∷ ds) all = (ap (λ l. list_any (λ r. r.slot == d.slot) l) disks_are ∙ any_more d.slot g.config.disks (added ∷ []) all.0, first_recorded ds all.1)
