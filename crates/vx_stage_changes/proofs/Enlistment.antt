-- Devices in hand as disks of a new group, and such disks once the group was begun.
use Rattle.std.proofs.Common.{◌≡◌, ◌≢◌, ◌∙◌, ℕ, suc, ◌+◌, ◌<◌, ◌≤◌, ◌==◌, true, List, [], ◌∷◌, map, length, refl, sym, ap, subst, inl, inr, arith}
use Rattle.std.specs.List.{list_any}
use Rattle.vx_base.specs.Named.{Word}
use Rattle.vx_piece.specs.Seen.{Seen}
use Rattle.vx_copies.specs.Disks.{disk_seen}
use Rattle.vx_copies.specs.Lists.{AllOf, Each}
use Rattle.vx_copies.specs.declared.disk.Disk.{Disk}
use Rattle.vx_confdb.specs.Create.{Joins, RefusedBy}
use Rattle.vx_confdb.specs.declared.fault.GroupFault.{GroupFault}
use Rattle.vx_confdb.specs.declared.fault.GroupFault.TheVariants as fault
use Rattle.vx_config_parts.specs.declared.object.Object.TheVariants.{DiskRecord}
use Rattle.vx_objects.specs.declared.config.Config.{Config}
use Rattle.vx_script_words.specs.declared.value.DiskAt.{DiskAt}
use Rattle.vx_moments.specs.World.{World}
use Rattle.vx_stages.specs.Records.{devices_of, sectors_at, disk_record, disk_records, new_members, member_at}
use Rattle.vx_house.specs.Goes.{IsBlankSeen}
use Rattle.vx_house.specs.Holders.{hand_holder, holder_in}
use Rattle.vx_house.specs.View.{AreSized, HaveSlots, AreRecorded, member_in}
use Rattle.vx_house.specs.declared.house.Taken.{Taken}
use Rattle.vx_house.specs.declared.stop.Stop.{Stop}
use Rattle.vx_stage_changes.specs.Creating.{disks_from, taken_of, record_of, IsUnwritten, IsUnfounded}

abbrev pub names_in : {P : Type 0} → List (Taken P) → List Word
names_in ts = map (λ t. t.device) ts

pub as_long : {P : Type 0} (ts : List (Taken P)) (ps : List DiskAt) → names_in ts ≡ devices_of ps → length ts ≡ length ps
as_long [] [] e = refl
as_long [] (p ∷ ps) e = cc
as_long (t ∷ ts) [] e = cc
as_long (t ∷ ts) (p ∷ ps) e = ap suc (as_long ts ps (let rest : names_in ts ≡ devices_of ps = cc in rest))

module _ {P : Type 0} (see : P → Seen) where
  pub all_unwritten : (slot : ℕ) (ts : List (Taken P)) (ps : List DiskAt) → slot + length (disks_from see slot ts ps) ≤ 32 → AllOf (λ t. IsBlankSeen (see t.piece)) ts → AllOf (IsUnwritten see) (disks_from see slot ts ps)
  all_unwritten slot [] ps few blank = tt
  all_unwritten slot (t ∷ ts) [] few blank = tt
  all_unwritten slot (t ∷ ts) (p ∷ ps) few blank = (
    record { good = refl; slot = omega (arith, few); half = omega arith; sectors = refl; blank = blank.0 },
    all_unwritten (slot + 1) ts ps (omega (arith, few)) blank.1,
  )

  pub all_sized : (slot : ℕ) (ts : List (Taken P)) (ps : List DiskAt) → AreSized (map (disk_seen see) (disks_from see slot ts ps))
  all_sized slot [] ps = tt
  all_sized slot (t ∷ ts) [] = tt
  all_sized slot (t ∷ ts) (p ∷ ps) = (refl, all_sized (slot + 1) ts ps)

  -- each disk is good, and has the size of its device
  pub all_good : (slot : ℕ) (ts : List (Taken P)) (ps : List DiskAt) → AllOf (λ h. (h.good ≡ true) × (h.sectors ≡ h.seen.sectors)) (map (disk_seen see) (disks_from see slot ts ps))
  all_good slot [] ps = tt
  all_good slot (t ∷ ts) [] = tt
  all_good slot (t ∷ ts) (p ∷ ps) = ((refl, refl), all_good (slot + 1) ts ps)

  above : (low slot : ℕ) (ts : List (Taken P)) (ps : List DiskAt) → low < slot → AllOf (λ e. e.slot ≢ low) (disks_from see slot ts ps)
  above low slot [] ps less = tt
  above low slot (t ∷ ts) [] less = tt
  above low slot (t ∷ ts) (p ∷ ps) less = ((λ same. omega (arith, same, less)), above low (slot + 1) ts ps (omega (arith, less)))

  pub have_slots : (slot : ℕ) (ts : List (Taken P)) (ps : List DiskAt) → HaveSlots (disks_from see slot ts ps)
  have_slots slot [] ps = tt
  have_slots slot (t ∷ ts) [] = tt
  have_slots slot (t ∷ ts) (p ∷ ps) = (above slot (slot + 1) ts ps (omega arith), have_slots (slot + 1) ts ps)

  -- the devices are disk_seen as the disks
  pub hand_held : (slot : ℕ) (ts : List (Taken P)) (ps : List DiskAt) → names_in ts ≡ devices_of ps → map (hand_holder see) ts ≡ map holder_in (map (disk_seen see) (disks_from see slot ts ps))
  hand_held slot [] ps e = refl
  hand_held slot (t ∷ ts) [] e = cc
  hand_held slot (t ∷ ts) (p ∷ ps) e = ap (λ hs. hand_holder see t ∷ hs) (hand_held (slot + 1) ts ps (let rest : names_in ts ≡ devices_of ps = cc in rest))

  pub disks_held : (ds : List (Disk P)) → map (hand_holder see) (map taken_of ds) ≡ map holder_in (map (disk_seen see) ds)
  disks_held [] = refl
  disks_held (d ∷ ds) = ap (λ hs. holder_in (disk_seen see d) ∷ hs) (disks_held ds)

  -- the disks are the devices
  pub hand_again : (slot : ℕ) (ts : List (Taken P)) (ps : List DiskAt) → names_in ts ≡ devices_of ps → map taken_of (disks_from see slot ts ps) ≡ ts
  hand_again slot [] ps e = refl
  hand_again slot (t ∷ ts) [] e = cc
  hand_again slot (t ∷ ts) (p ∷ ps) e = ap (λ us. t ∷ us) (hand_again (slot + 1) ts ps (let rest : names_in ts ≡ devices_of ps = cc in rest))

  pub hand_some : (slot : ℕ) (ts : List (Taken P)) (ps : List DiskAt) → AllOf (λ t. 0 < (see t.piece).sectors) ts → AllOf (λ h. 0 < h.seen.sectors) (map (disk_seen see) (disks_from see slot ts ps))
  hand_some slot [] ps all = tt
  hand_some slot (t ∷ ts) [] all = tt
  hand_some slot (t ∷ ts) (p ∷ ps) all = (all.0, hand_some (slot + 1) ts ps all.1)

  pub disks_some : (ds : List (Disk P)) → AllOf (λ h. 0 < h.seen.sectors) (map (disk_seen see) ds) → AllOf (λ t. 0 < (see t.piece).sectors) (map taken_of ds)
  disks_some [] all = tt
  disks_some (d ∷ ds) all = (all.0, disks_some ds all.1)

  pub members_from : (slot : ℕ) (ts : List (Taken P)) (ps : List DiskAt) → names_in ts ≡ devices_of ps → map member_in (map (disk_seen see) (disks_from see slot ts ps)) ≡ new_members slot ps
  members_from slot [] [] e = refl
  members_from slot [] (p ∷ ps) e = cc
  members_from slot (t ∷ ts) [] e = cc
  members_from slot (t ∷ ts) (p ∷ ps) e =
      let same : t.device ≡ p.device = cc in
      ap (λ n. (record { device = n; disk = p.disk; slot = slot }) ∷ map member_in (map (disk_seen see) (disks_from see (slot + 1) ts ps))) same
      ∙ ap (λ ms. member_at p slot ∷ ms) (members_from (slot + 1) ts ps (let rest : names_in ts ≡ devices_of ps = cc in rest))

  -- the records are those of the world's devices
  pub records_from : (w : World) (slot : ℕ) (ts : List (Taken P)) (ps : List DiskAt) → names_in ts ≡ devices_of ps → AllOf (λ h. sectors_at w h.device ≡ h.seen.sectors) (map (disk_seen see) (disks_from see slot ts ps))
      → map (λ d. DiskRecord (record_of d)) (disks_from see slot ts ps) ≡ disk_records slot w ps
  records_from w slot [] [] e sized = refl
  records_from w slot [] (p ∷ ps) e sized = cc
  records_from w slot (t ∷ ts) [] e sized = cc
  records_from w slot (t ∷ ts) (p ∷ ps) e sized =
      let same : t.device ≡ p.device = cc in
      ap (λ n. DiskRecord (disk_record (record { disk = p.disk; device = t.device }) slot n) ∷ map (λ d. DiskRecord (record_of d)) (disks_from see (slot + 1) ts ps)) (sym sized.0)
      ∙ ap (λ n. DiskRecord (disk_record (record { disk = p.disk; device = n }) slot (sectors_at w n)) ∷ map (λ d. DiskRecord (record_of d)) (disks_from see (slot + 1) ts ps)) same
      ∙ ap (λ os. DiskRecord (disk_record p slot (sectors_at w p.device)) ∷ os) (records_from w (slot + 1) ts ps (let rest : names_in ts ≡ devices_of ps = cc in rest) sized.1)

module _ {P : Type 0} (see : P → Seen) (dg : Word) (text : List ℕ) where
  abbrev pub AllJoin : List (Disk P) → List (Disk P) → Type 0
  AllJoin ds ds' = Each (Joins dg text) (map (disk_seen see) ds) (map (disk_seen see) ds')

  joins_long : (ds ds' : List (Disk P)) → AllJoin ds ds' → length ds' ≡ length ds
  joins_long [] [] joins = refl
  joins_long [] (e ∷ ds') joins = absurd joins
  joins_long (d ∷ ds) [] joins = absurd joins
  joins_long (d ∷ ds) (e ∷ ds') joins = ap suc (joins_long ds ds' joins.1)

  pub joins_sized : (ds ds' : List (Disk P)) → AllJoin ds ds' → AreSized (map (disk_seen see) ds) → AreSized (map (disk_seen see) ds')
  joins_sized [] [] joins sized = tt
  joins_sized [] (e ∷ ds') joins sized = absurd joins
  joins_sized (d ∷ ds) [] joins sized = absurd joins
  joins_sized (d ∷ ds) (e ∷ ds') joins sized = (joins.0.kept.sectors ∙ sized.0 ∙ sym joins.0.size, joins_sized ds ds' joins.1 sized.1)

  others_slots : (a b : ℕ) (ds ds' : List (Disk P)) → b ≡ a → AllJoin ds ds' → AllOf (λ e. e.slot ≢ a) ds → AllOf (λ e. e.slot ≢ b) ds'
  others_slots a b [] [] same joins all = tt
  others_slots a b [] (e ∷ ds') same joins all = absurd joins
  others_slots a b (d ∷ ds) [] same joins all = absurd joins
  others_slots a b (d ∷ ds) (e ∷ ds') same joins all = ((λ is. all.0 (sym joins.0.slot ∙ is ∙ same)), others_slots a b ds ds' same joins.1 all.1)

  pub joins_slots : (ds ds' : List (Disk P)) → AllJoin ds ds' → HaveSlots ds → HaveSlots ds'
  joins_slots [] [] joins slots = tt
  joins_slots [] (e ∷ ds') joins slots = absurd joins
  joins_slots (d ∷ ds) [] joins slots = absurd joins
  joins_slots (d ∷ ds) (e ∷ ds') joins slots = (others_slots d.slot e.slot ds ds' joins.0.slot joins.1 slots.0, joins_slots ds ds' joins.1 slots.1)

  pub joins_recorded : (config : Config) (ds ds' : List (Disk P)) → AllJoin ds ds' → AreRecorded config ds → AreRecorded config ds'
  joins_recorded config [] [] joins all = tt
  joins_recorded config [] (e ∷ ds') joins all = absurd joins
  joins_recorded config (d ∷ ds) [] joins all = absurd joins
  joins_recorded config (d ∷ ds) (e ∷ ds') joins all = (subst (λ k. list_any (λ r. r.slot == k) config.disks ≡ true) (sym joins.0.slot) all.0, joins_recorded config ds ds' joins.1 all.1)

  refused_long : (f : GroupFault) (ds ds' : List (Disk P)) → RefusedBy see f dg text ds ds' → length ds' ≡ length ds
  refused_long fault.OutOfMemory ds ds' is = ap length is
  refused_long (fault.TooLong n) ds ds' is = ap length is.2
  refused_long fault.GroupLost ds ds' is = joins_long ds ds' is.0.joins
  refused_long fault.PowerLost ds ds' is = joins_long ds ds' is.0.joins

-- as many disks are given back
pub unfounded_long : {P : Type 0} (see : P → Seen) (dg : Word) (stop : Stop) (ds back : List (Disk P)) → IsUnfounded see dg stop ds back → length back ≡ length ds
unfounded_long see dg stop ds back (inl none) = ap length none.1
unfounded_long see dg stop ds back (inr is) = refused_long see dg is.text is.fault ds back is.refused
