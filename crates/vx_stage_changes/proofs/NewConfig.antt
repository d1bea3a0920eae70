-- The configuration of a new group, and the disks that are fit for it.
use Rattle.std.proofs.Common.{◌≡◌, ◌∙◌, ◌<◌, ◌≤◌, ◌^◌, ◌==◌, ◌||◌, ℕ, Bool, true, false, List, [], ◌∷◌, map, refl, sym, ap, subst, inr, arith}
use Rattle.std.specs.Prelude.{nat_lt, nat_le}
use Rattle.std.specs.List.{list_all, list_any, filter_map}
use Rattle.std.proofs.lemmas.Bool.{and_parts, ltb-true, leb-true, eq-eqb}
use Rattle.std.proofs.lemmas.List.{append-nil}
use Rattle.vx_base.specs.Named.{Word}
use Rattle.vx_header.specs.Sectors.{is_short_name}
use Rattle.vx_piece.specs.Seen.{Seen}
use Rattle.vx_copies.specs.Disks.{disk_seen}
use Rattle.vx_copies.specs.Lists.{AllOf}
use Rattle.vx_copies.specs.declared.disk.Disk.{Disk}
use Rattle.vx_confdb.specs.Create.{RefusedBy}
use Rattle.vx_confdb.specs.Enlisted.{AreBegun}
use Rattle.vx_confdb.specs.Prepare.{IsFresh, OffersNone}
use Rattle.vx_confdb.specs.declared.fault.GroupFault.{GroupFault}
use Rattle.vx_config_parts.specs.declared.disk.Disk.{Disk as Record}
use Rattle.vx_config_parts.specs.declared.object.Object.{Object}
use Rattle.vx_config_parts.specs.declared.object.Object.TheVariants.{GroupRecord, DiskRecord}
use Rattle.vx_objects.specs.declared.config.Config.{Config}
use Rattle.vx_objects.specs.Config.{objects_of, IsMadeOf}
use Rattle.vx_objects.specs.Parts.{as_disk, records_of, in_kinds}
use Rattle.vx_objects.proofs.InKinds.{are_sorted}
use Rattle.vx_stages.specs.Records.{is_disk_size}
use Rattle.vx_house.specs.View.{AreRecorded}
use Rattle.vx_house.specs.declared.stop.Stop.{Stop}
use Rattle.vx_stage_changes.specs.Committing.{stop_of}
use Rattle.vx_stage_changes.specs.Creating.{record_of, group_records, is_fit, are_fit, IsUnwritten, IsDrawn, IsUnfounded}
use Rattle.vx_stage_changes.specs.Planning.{IsShortText}
use Rattle.vx_stage_changes.proofs.Configs.{disks_of}
use Rattle.vx_stage_changes.proofs.Room.{offers_none}

-- the name of the group that is the first record
group_first : List Object → Word
group_first (GroupRecord g ∷ os) = g.name
group_first os = []

module _ {P : Type 0} where
  abbrev pub parts_of : List (Disk P) → List Record
  parts_of ds = map record_of ds

  parts_are : (ds : List (Disk P)) → map (λ d. DiskRecord (record_of d)) ds ≡ map DiskRecord (parts_of ds)
  parts_are [] = refl
  parts_are (d ∷ ds) = ap (λ os. DiskRecord (record_of d) ∷ os) (parts_are ds)

  records_are : (dg : Word) (ds : List (Disk P)) → group_records dg ds ≡ records_of dg 1 (parts_of ds) [] [] [] [] []
  records_are dg ds = ap (λ os. GroupRecord (record { name = dg; version = 1 }) ∷ os) (parts_are ds ∙ sym (append-nil (map DiskRecord (parts_of ds))))

  -- the configuration has just these records
  records_made : (dg : Word) (ds : List (Disk P)) (config : Config) → IsMadeOf (group_records dg ds) config → objects_of config ≡ group_records dg ds
  records_made dg ds config made = made ∙ ap in_kinds (records_are dg ds) ∙ are_sorted (parts_of ds) [] [] [] [] [] dg 1 ∙ sym (records_are dg ds)

  pub is_drawn : (dg : Word) (ds : List (Disk P)) (records : List Object) (config : Config) (text : List ℕ) → records ≡ group_records dg ds → IsMadeOf records config → IsShortText config text → IsDrawn dg ds config text
  is_drawn dg ds records config text are made printed = record { records = records_made dg ds config (subst (λ os. IsMadeOf os config) are made); printed = printed }

  -- the group has its name
  pub named_so : (dg : Word) (ds : List (Disk P)) (config : Config) → objects_of config ≡ group_records dg ds → config.group ≡ dg
  unfolding group_first
  named_so dg ds config same = ap group_first same

  parts_found : (ds : List (Disk P)) → filter_map as_disk (map (λ d. DiskRecord (record_of d)) ds) ≡ parts_of ds
  parts_found [] = refl
  parts_found (d ∷ ds) = ap (λ rs. let r : Record = record_of d in r ∷ rs) (parts_found ds)

  disks_so : (dg : Word) (ds : List (Disk P)) (config : Config) → objects_of config ≡ group_records dg ds → config.disks ≡ parts_of ds
  disks_so dg ds config same = sym (disks_of config) ∙ ap (filter_map as_disk) same ∙ parts_found ds

  any_more : (r : Record) (rs : List Record) (ds : List (Disk P)) → AllOf (λ d. list_any (λ r. r.slot == d.slot) rs ≡ true) ds → AllOf (λ d. list_any (λ r. r.slot == d.slot) (r ∷ rs) ≡ true) ds
  any_more r rs [] all = tt
  any_more r rs (d ∷ ds) all = (by (r.slot == d.slot) all.0, any_more r rs ds all.1)
    where
      by : (b : Bool) → list_any (λ r. r.slot == d.slot) rs ≡ true → (b || list_any (λ r. r.slot == d.slot) rs) ≡ true
      by true e = refl
      by false e = e

  slots_found : (ds : List (Disk P)) → AllOf (λ d. list_any (λ r. r.slot == d.slot) (parts_of ds) ≡ true) ds
  slots_found [] = tt
  slots_found (d ∷ ds) = (ap (λ b. b || list_any (λ r. r.slot == d.slot) (parts_of ds)) (eq-eqb d.slot d.slot refl), any_more (record_of d) (parts_of ds) ds (slots_found ds))

  -- each disk has its record
  pub recorded_so : (dg : Word) (ds : List (Disk P)) (config : Config) → objects_of config ≡ group_records dg ds → AreRecorded config ds
  recorded_so dg ds config same = subst (λ rs. AllOf (λ d. list_any (λ r. r.slot == d.slot) rs ≡ true) ds) (sym (disks_so dg ds config same)) (slots_found ds)

size_parts : (n : ℕ) → is_disk_size n ≡ true → (2048 < n) × (n ≤ 2 ^ 40)
size_parts n e = let parts = and_parts (nat_lt 2048 n) (nat_le n (2 ^ 40)) e in (ltb-true 2048 n parts.0, leb-true n (2 ^ 40) parts.1)

module _ {P : Type 0} (see : P → Seen) (dg : Word) where
  fresh_one : is_short_name dg ≡ true → (d : Disk P) → IsUnwritten see d → is_fit d ≡ true → IsFresh see dg d
  fresh_one short d is fit =
      let parts = and_parts (is_disk_size d.sectors) (is_short_name d.name) fit in
      let range = size_parts d.sectors parts.0 in
      record {
        good = is.good;
        slot = is.slot;
        half = is.half;
        private = let e = is.sectors in omega (arith, e, range.0);
        group_short = short;
        name_short = parts.1;
        public = range.0;
        at_most = range.1;
      }

  fresh_each : is_short_name dg ≡ true → (ds : List (Disk P)) → AllOf (IsUnwritten see) ds → list_all is_fit ds ≡ true → AllOf (IsFresh see dg) ds
  fresh_each short [] all fit = tt
  fresh_each short (d ∷ ds) all fit = let parts = and_parts (is_fit d) (list_all is_fit ds) fit in (fresh_one short d all.0 parts.0, fresh_each short ds all.1 parts.1)

  -- the disks may become members of the group
  pub all_fresh : (ds : List (Disk P)) → AllOf (IsUnwritten see) ds → are_fit dg ds ≡ true → AllOf (IsFresh see dg) ds
  all_fresh ds all fit = let parts = and_parts (is_short_name dg) (list_all is_fit ds) fit in fresh_each parts.0 ds all parts.1

  -- none of them offers anything
  pub none_offers : (ds : List (Disk P)) → AllOf (IsUnwritten see) ds → AllOf (OffersNone dg) (map (disk_seen see) ds)
  none_offers [] all = tt
  none_offers (d ∷ ds) all = (offers_none dg (see d.piece).told all.0.blank, none_offers ds all.1)

  pub is_unfounded : (ds back : List (Disk P)) (config : Config) (text : List ℕ) (fault : GroupFault) (stop : Stop) → IsDrawn dg ds config text → stop ≡ stop_of fault → RefusedBy see fault dg text ds back → AreBegun dg text (map (disk_seen see) ds) (map (disk_seen see) back) → IsUnfounded see dg stop ds back
  is_unfounded ds back config text fault stop drawn is refused begun = inr (record { text = text; config = config; drawn = drawn; fault = fault; stop_is = is; refused = refused; begun = begun })
