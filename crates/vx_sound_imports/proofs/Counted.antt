-- Two readings of one configuration have as many data plexes of a volume.
use Rattle.std.proofs.Common.{◌≡◌, ◌∙◌, ℕ, suc, ◌+◌, Bool, true, false, cond, List, [], ◌∷◌, length, map, refl, sym, ap, arith}
use Rattle.std.specs.Prelude.{fold, sum_by}
use Rattle.std.specs.List.{filter, filter_map}
use Rattle.std.proofs.lemmas.List.Sorted.{sum_by-IsPermutation}
use Rattle.vx_base.specs.Named.{Word}
use Rattle.vx_config_parts.specs.declared.object.Object.{Object}
use Rattle.vx_config_parts.specs.declared.object.Object.TheVariants.{DcoRecord, DiskRecord, GroupRecord, PlexRecord, SnapRecord, SubdiskRecord, VolRecord}
use Rattle.vx_config_parts.specs.declared.vol.Vol.{Vol}
use Rattle.vx_config_parts.specs.Objects.{is_data_plex_of}
use Rattle.vx_objects.specs.declared.config.Config.{Config}
use Rattle.vx_objects.specs.Config.{objects_of}
use Rattle.vx_objects.specs.Parts.{as_plex}
use Rattle.vx_objects.proofs.InKinds.{plexes_below}
use Rattle.vx_image.specs.Bytes.{Sectors, image_of, plex_image}
use Rattle.vx_readings.specs.Readings.{HaveSameRecords}

abbrev weight : Word → Object → ℕ
weight name (PlexRecord p) = cond (is_data_plex_of name p) 1 0
weight name o = 0

count_from : (name : Word) (n : ℕ) (os : List Object) → fold (λ a o. a + weight name o) n os ≡ n + length (filter (is_data_plex_of name) (filter_map as_plex os))
count_from name n [] = omega arith
count_from name n (PlexRecord p ∷ os) = by (is_data_plex_of name p) (λ k. count_from name k os)
  where
    by : (b : Bool) → ((k : ℕ) → fold (λ a o. a + weight name o) k os ≡ k + length (filter (is_data_plex_of name) (filter_map as_plex os))) →
        fold (λ a o. a + weight name o) (n + cond b 1 0) os ≡ n + length (cond b (p ∷ filter (is_data_plex_of name) (filter_map as_plex os)) (filter (is_data_plex_of name) (filter_map as_plex os)))
    by true all = let more = all (n + 1) in omega (arith, more)
    by false all = let more = all (n + 0) in omega (arith, more)
count_from name n (GroupRecord g ∷ os) = let more = count_from name (n + 0) os in omega (arith, more)
count_from name n (DiskRecord d ∷ os) = let more = count_from name (n + 0) os in omega (arith, more)
count_from name n (SubdiskRecord s ∷ os) = let more = count_from name (n + 0) os in omega (arith, more)
count_from name n (VolRecord v ∷ os) = let more = count_from name (n + 0) os in omega (arith, more)
count_from name n (DcoRecord d ∷ os) = let more = count_from name (n + 0) os in omega (arith, more)
count_from name n (SnapRecord s ∷ os) = let more = count_from name (n + 0) os in omega (arith, more)

none_added : (n : ℕ) → 0 + n ≡ n
none_added n = omega arith

plexes_counted : (c : Config) (name : Word) → sum_by (weight name) (objects_of c) ≡ length (filter (is_data_plex_of name) c.plexes)
plexes_counted c name = count_from name 0 (objects_of c) ∙ none_added (length (filter (is_data_plex_of name) (filter_map as_plex (objects_of c)))) ∙ ap (λ ps. length (filter (is_data_plex_of name) ps)) (plexes_below c.disks c.subdisks c.plexes c.volumes c.dcos c.snaps)

mapped_length : {X Y : Type 0} (f : X → Y) (xs : List X) → length (map f xs) ≡ length xs
mapped_length f [] = refl
mapped_length f (x ∷ xs) = ap suc (mapped_length f xs)

same_count : (c other : Config) (name : Word) → HaveSameRecords c other → length (filter (is_data_plex_of name) other.plexes) ≡ length (filter (is_data_plex_of name) c.plexes)
same_count c other name same = sym (plexes_counted other name) ∙ sum_by-IsPermutation (weight name) (objects_of c) (objects_of other) same ∙ plexes_counted c name

-- the image has as many plexes
pub reading_plexes : (c other : Config) (v : Vol) (good good' : ℕ) (bytes bytes' : Sectors) → HaveSameRecords c other → length (image_of other good' bytes' v).plexes ≡ length (image_of c good bytes v).plexes
reading_plexes c other v good good' bytes bytes' same =
    mapped_length (plex_image other good' bytes') (filter (is_data_plex_of v.name) other.plexes) ∙ same_count c other v.name same ∙ sym (mapped_length (plex_image c good bytes) (filter (is_data_plex_of v.name) c.plexes))
