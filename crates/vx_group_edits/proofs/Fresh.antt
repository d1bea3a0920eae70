-- Records that are added are of volumes that were never started: no group, no disk and no relation is among them.
use Rattle.std.proofs.Common.{◌≡◌, ℕ, ◌+◌, min, Bool, true, false, if◌then◌else◌, Option, Some, None, List, [], ◌∷◌, ◌++◌, length, map, refl, sym, subst, inl, inr}
use Rattle.std.specs.List.{cons_option, filter_map}
use Rattle.vx_base.specs.Named.{Word}
use Rattle.vx_config_parts.specs.declared.object.Object.{Object}
use Rattle.vx_config_parts.specs.declared.object.Object.TheVariants.{GroupRecord, DiskRecord, SubdiskRecord, PlexRecord, VolRecord, DcoRecord, SnapRecord}
use Rattle.vx_space.specs.declared.extent.Extent.{Extent}
use Rattle.vx_new_volumes.specs.declared.parts.Plan.{Plan}
use Rattle.vx_new_volumes.specs.Laying.{Laid, next_on, put_column, put_columns, put_extent, put_logs, put_plexes, subdisk, with_next}
use Rattle.vx_new_volumes.specs.Naming.{Numbered, and_then, names_behind, next_name}
use Rattle.vx_new_volumes.specs.Records.{data_plex, data_plexes, dco_name, dco_of, has_logs, log_plex, log_stem, names_known, records_of, subdisks, vol_of}
use Rattle.vx_new_volumes.specs.declared.volume.NewVolume.{NewVolume}
use Rattle.vx_objects.specs.Config.{objects_of}
use Rattle.vx_image.proofs.PlexMembers.{IsIn, from_map, in_either}
use Rattle.vx_state_edits.specs.Edits.{is_new}
use Rattle.vx_moments.specs.World.{Group}
use Rattle.vx_stages.specs.Making.{made}
use Rattle.vx_stages.specs.Sources.{AddsFrom}
use Rattle.vx_stages.specs.declared.stage.Source.{Source}
use Rattle.vx_stages.specs.declared.stage.Source.TheVariants as source

-- the record is one of a volume, which was never started
abbrev pub is_fresh : Object → Bool
is_fresh (GroupRecord g) = false
is_fresh (DiskRecord d) = false
is_fresh (SnapRecord s) = false
is_fresh (VolRecord v) = is_new v.state
is_fresh other = true

abbrev pub AreFresh : List Object → Type 0
AreFresh os = (o : Object) → IsIn os o → is_fresh o ≡ true

no_fresh : AreFresh []
no_fresh o there = absurd there

one_more : (x : Object) (os : List Object) → is_fresh x ≡ true → AreFresh os → AreFresh (x ∷ os)
one_more x os here more o (inl same) = subst (λ y. is_fresh y ≡ true) (sym same) here
one_more x os here more o (inr there) = more o there

both_fresh : (os ps : List Object) → AreFresh os → AreFresh ps → AreFresh (os ++ ps)
both_fresh os ps first rest o there = elim (in_either os ps o there) [ inl here ↦ first o here | inr more ↦ rest o more ]

-- ---- the records of a text

abbrev IsFreshOr : Option Object → Type 0
IsFreshOr None = Unit {0}
IsFreshOr (Some o) = is_fresh o ≡ true

made_fresh : (o : Object) → IsFreshOr (made o)
made_fresh (GroupRecord x) = tt
made_fresh (DiskRecord x) = tt
made_fresh (SubdiskRecord x) = refl
made_fresh (PlexRecord x) = refl
made_fresh (VolRecord x) = refl
made_fresh (DcoRecord x) = refl
made_fresh (SnapRecord x) = tt

text_fresh : (all : List Object) → AreFresh (filter_map made all)
text_fresh [] = no_fresh
text_fresh (x ∷ all) = by (made x) (made_fresh x) (text_fresh all)
  where
    by : (o : Option Object) → IsFreshOr o → AreFresh (filter_map made all) → AreFresh (cons_option o (filter_map made all))
    by None fresh more = more
    by (Some o) fresh more = one_more o (filter_map made all) fresh more

-- ---- those of a new volume

then_some : {A B : Type 0} (a : Option A) (next : A → Option B) (b : B) → and_then a next ≡ Some b → (x : A) × (a ≡ Some x) × (next x ≡ Some b)
then_some None next b is = cc
then_some (Some x) next b is = (x, refl, is)

same_laid : (l m : Laid) → Some l ≡ Some m → AreFresh l.objects → AreFresh m.objects
same_laid l m is fresh = let same : l ≡ m = cc in subst (λ (x : Laid). AreFresh x.objects) same fresh

extent_fresh : (known : List Word) (plex : Word) (col at : ℕ) (e : Extent) (l m : Laid) → put_extent known plex col at e l ≡ Some m → AreFresh l.objects → AreFresh m.objects
extent_fresh known plex col at e l m is fresh =
    let next : Numbered → Laid = λ t. (let laid : Laid = record { objects = l.objects ++ subdisk t.name plex col at e ∷ []; nexts = with_next e.disk (t.number + 1) l.nexts } in laid) in
    let t = then_some (next_name known e.disk (next_on l.nexts e.disk)) (λ t. Some (next t)) m is in
    same_laid (next t.0) m t.2 (both_fresh l.objects (subdisk t.0.name plex col at e ∷ []) fresh (one_more (subdisk t.0.name plex col at e) [] refl no_fresh))

column_fresh : (known : List Word) (plex : Word) (col at : ℕ) (es : List Extent) (l m : Laid) → put_column known plex col at es l ≡ Some m → AreFresh l.objects → AreFresh m.objects
column_fresh known plex col at [] l m is fresh = same_laid l m is fresh
column_fresh known plex col at (e ∷ es) l m is fresh =
    let t = then_some (put_extent known plex col at e l) (put_column known plex col (min (at + e.count) 18446744073709551615) es) m is in
    column_fresh known plex col (min (at + e.count) 18446744073709551615) es t.0 m t.2 (extent_fresh known plex col at e l t.0 t.1 fresh)

columns_fresh : (known : List Word) (plex : Word) (col : ℕ) (cs : List (List Extent)) (l m : Laid) → put_columns known plex col cs l ≡ Some m → AreFresh l.objects → AreFresh m.objects
columns_fresh known plex col [] l m is fresh = same_laid l m is fresh
columns_fresh known plex col (c ∷ cs) l m is fresh =
    let t = then_some (put_column known plex col 0 c l) (put_columns known plex (min (col + 1) 4294967295) cs) m is in
    columns_fresh known plex (min (col + 1) 4294967295) cs t.0 m t.2 (column_fresh known plex col 0 c l t.0 t.1 fresh)

plexes_fresh : (known names : List Word) (ps : List (List (List Extent))) (l m : Laid) → put_plexes known names ps l ≡ Some m → AreFresh l.objects → AreFresh m.objects
plexes_fresh known [] ps l m is fresh = same_laid l m is fresh
plexes_fresh known (name ∷ names) [] l m is fresh = same_laid l m is fresh
plexes_fresh known (name ∷ names) (p ∷ ps) l m is fresh =
    let t = then_some (put_columns known name 0 p l) (put_plexes known names ps) m is in plexes_fresh known names ps t.0 m t.2 (columns_fresh known name 0 p l t.0 t.1 fresh)

logs_fresh : (known names : List Word) (logs : List (List Extent)) (l m : Laid) → put_logs known names logs l ≡ Some m → AreFresh l.objects → AreFresh m.objects
logs_fresh known [] logs l m is fresh = same_laid l m is fresh
logs_fresh known (name ∷ names) [] l m is fresh = same_laid l m is fresh
logs_fresh known (name ∷ names) (es ∷ ess) l m is fresh =
    let t = then_some (put_column known name 0 0 es l) (put_logs known names ess) m is in logs_fresh known names ess t.0 m t.2 (column_fresh known name 0 0 es l t.0 t.1 fresh)

subdisks_fresh : (known plexes logs : List Word) (plan : Plan) (m : Laid) → subdisks known plexes logs plan ≡ Some m → AreFresh m.objects
subdisks_fresh known plexes logs plan m is =
    let none : Laid = record { objects = []; nexts = [] } in
    let t = then_some (put_plexes known plexes plan.plexes none) (put_logs known logs plan.logs) m is in
    logs_fresh known logs plan.logs t.0 m t.2 (plexes_fresh known plexes plan.plexes none t.0 t.1 no_fresh)

dco_fresh : (n : NewVolume) (dco : Word) → AreFresh (dco_of n dco)
dco_fresh n dco = by (has_logs n)
  where
    by : (b : Bool) → AreFresh (if b then DcoRecord (record { name = dco; vol = n.vol; maps = 32 }) ∷ [] else [])
    by true = one_more (DcoRecord (record { name = dco; vol = n.vol; maps = 32 })) [] refl no_fresh
    by false = no_fresh

data_fresh : (n : NewVolume) (m : ℕ) (names : List Word) → AreFresh (data_plexes n m names)
data_fresh n m [] = no_fresh
data_fresh n m (name ∷ names) = one_more (PlexRecord (data_plex n m name)) (data_plexes n (min (m + 1) 255) names) refl (data_fresh n (min (m + 1) 255) names)

log_fresh : (n : NewVolume) (names : List Word) → AreFresh (map (log_plex n) names)
log_fresh n names o there = let r = from_map (log_plex n) names o there in subst (λ x. is_fresh x ≡ true) (sym r.2) refl

-- what the records of a new volume are: itself and others, all fresh
record IsNew (n : NewVolume) (added : List Object) : Type 0 where
  dco : Word
  others : List Object
  are : added ≡ VolRecord (vol_of n dco) ∷ others
  fresh : AreFresh others

module _ (group : List Object) (n : NewVolume) (plan : Plan) where
  abbrev records : Word → List Word → List Word → Laid → List Object
  records dco plexes logs l = VolRecord (vol_of n dco) ∷ dco_of n dco ++ data_plexes n 0 plexes ++ map (log_plex n) logs ++ l.objects

  abbrev by_laid : Word → List Word → List Word → Option (List Object)
  by_laid dco plexes logs = and_then (subdisks (names_known group n dco ++ plexes ++ logs) plexes logs plan) (λ l. Some (records dco plexes logs l))

  abbrev by_logs : Word → List Word → Option (List Object)
  by_logs dco plexes = and_then (names_behind (length plan.logs) [] (names_known group n dco) (log_stem n.vol) 1) (by_laid dco plexes)

  abbrev by_plexes : Word → Option (List Object)
  by_plexes dco = and_then (names_behind (length plan.plexes) [] (names_known group n dco) n.vol 1) (by_logs dco)

  new_records : (added : List Object) → records_of group n plan ≡ Some added → IsNew n added
  unfolding records_of
  new_records added is =
      let dco = then_some (dco_name n.vol) by_plexes added is in
      let plexes = then_some (names_behind (length plan.plexes) [] (names_known group n dco.0) n.vol 1) (by_logs dco.0) added dco.2 in
      let logs = then_some (names_behind (length plan.logs) [] (names_known group n dco.0) (log_stem n.vol) 1) (by_laid dco.0 plexes.0) added plexes.2 in
      let known = names_known group n dco.0 ++ plexes.0 ++ logs.0 in
      let laid = then_some (subdisks known plexes.0 logs.0 plan) (λ l. Some (records dco.0 plexes.0 logs.0 l)) added logs.2 in
      let own = dco_of n dco.0 ++ data_plexes n 0 plexes.0 in
      let plain = own ++ map (log_plex n) logs.0 in
      let own_fresh = both_fresh (dco_of n dco.0) (data_plexes n 0 plexes.0) (dco_fresh n dco.0) (data_fresh n 0 plexes.0) in
      record {
        dco = dco.0;
        others = plain ++ laid.0.objects;
        are = same_some added (records dco.0 plexes.0 logs.0 laid.0) laid.2;
        fresh = both_fresh plain laid.0.objects (both_fresh own (map (log_plex n) logs.0) own_fresh (log_fresh n logs.0)) (subdisks_fresh known plexes.0 logs.0 plan laid.0 laid.1);
      }
    where
      same_some : (os ps : List Object) → Some ps ≡ Some os → os ≡ ps
      same_some os ps e = cc

new_fresh : (n : NewVolume) (added : List Object) → IsNew n added → AreFresh added
new_fresh n added new = subst AreFresh (sym new.are) (one_more (VolRecord (vol_of n new.dco)) new.others refl new.fresh)

-- the volume itself is among them
pub new_one : (is_started : Word → Bool) (g : Group) (n : NewVolume) (added : List Object) → AddsFrom (source.Volume n) is_started g added → (dco : Word) × IsIn added (VolRecord (vol_of n dco))
new_one is_started g n added laid =
    let new = new_records (objects_of g.config) n laid.plan added laid.records in
    (new.dco, subst (λ os. IsIn os (VolRecord (vol_of n new.dco))) (sym new.are) (inl refl))

-- ---- by the source

pub each_fresh : (from : Source) (is_started : Word → Bool) (g : Group) (added : List Object) → AddsFrom from is_started g added → AreFresh added
each_fresh (source.Text text) is_started g added adds = subst AreFresh (sym adds.4) (text_fresh adds.1)
each_fresh (source.Volume n) is_started g added laid = new_fresh n added (new_records (objects_of g.config) n laid.plan added laid.records)
