-- No disk is among the records of a source.
use Rattle.std.proofs.Common.{◌≡◌, true, List, [], ◌∷◌, refl, inl, inr}
use Rattle.std.specs.List.{filter_map}
use Rattle.vx_config_parts.specs.declared.object.Object.{Object}
use Rattle.vx_config_parts.specs.declared.object.Object.TheVariants.{GroupRecord, DiskRecord, SubdiskRecord, PlexRecord, VolRecord, DcoRecord, SnapRecord}
use Rattle.vx_objects.specs.Parts.{as_disk}
use Rattle.vx_group_edits.proofs.Fresh.{AreFresh, is_fresh}

others : (x : Object) (os : List Object) → AreFresh (x ∷ os) → AreFresh os
others x os fresh o there = fresh o (inr there)

pub no_disk : (os : List Object) → AreFresh os → filter_map as_disk os ≡ []
no_disk [] fresh = refl
no_disk (DiskRecord d ∷ os) fresh = let not : is_fresh (DiskRecord d) ≡ true = fresh (DiskRecord d) (inl refl) in cc
no_disk (GroupRecord g ∷ os) fresh = no_disk os (others (GroupRecord g) os fresh)
no_disk (SubdiskRecord s ∷ os) fresh = no_disk os (others (SubdiskRecord s) os fresh)
no_disk (PlexRecord p ∷ os) fresh = no_disk os (others (PlexRecord p) os fresh)
no_disk (VolRecord v ∷ os) fresh = no_disk os (others (VolRecord v) os fresh)
no_disk (DcoRecord d ∷ os) fresh = no_disk os (others (DcoRecord d) os fresh)
no_disk (SnapRecord s ∷ os) fresh = no_disk os (others (SnapRecord s) os fresh)
