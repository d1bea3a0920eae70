-- What is known of each element of the lists that a form is made from.
use Rattle.std.proofs.Common.{◌≡◌, inl, inr, ℕ, ◌<◌, Bool, true, false, cond, Some, None, List, [], ◌∷◌, refl, ap, arith}
use Rattle.std.specs.Prelude.{◌&&◌}
use Rattle.std.specs.List.{All, cons_option, filter, filter_map}
use Rattle.std.specs.Str.{bytes_eq}
use Rattle.std.proofs.lemmas.Bool.{and_parts}
use Rattle.std.proofs.lemmas.List.Elements.{All-nil, All-cons}
use Rattle.vx_base.specs.Named.{Word}
use Rattle.vx_config_parts.specs.declared.plex.Plex.{Plex}
use Rattle.vx_config_parts.specs.declared.snap.Snap.{Snap}
use Rattle.vx_config_parts.specs.declared.vol.Vol.{Vol}
use Rattle.vx_config_parts.specs.declared.object.Object.TheVariants.{PlexRecord}
use Rattle.vx_config_parts.specs.Objects.{is_data_plex_of}
use Rattle.vx_objects.specs.declared.config.Config.{Config}
use Rattle.vx_objects.specs.Config.{objects_of}
use Rattle.vx_image.specs.Lies.{IsPlexOf}
use Rattle.vx_image.proofs.PlexMembers.{IsIn, in_one, plex_in, from_map}
use Rattle.vx_image.specs.Bytes.{map_or_zero, relation_maps}
use Rattle.vx_image.specs.UsedPlexes.{IsVolOf, maps_of, held_plexes, used_logs, relation_map}
use Rattle.vx_lending.proofs.Distinct.{filtered}
use Rattle.vx_lending.proofs.Rules.{plex_low, relation_low}
use Rattle.vx_lending.proofs.Maps.{in_among, snap_among}
use Rattle.vx_lending.proofs.Places.{held_taken, log_taken}

each_in : {A : Type 0} (P : A → Type 0) (xs : List A) → ((x : A) → IsIn xs x → P x) → All P xs
each_in P [] each = All-nil P
each_in P (x ∷ xs) each = All-cons P x xs (each x (inl refl)) (each_in P xs (λ y there. each y (inr there)))

plex_of : (c : Config) (p : Plex) → IsIn c.plexes p → IsPlexOf c p
plex_of c p there = in_one (objects_of c) (PlexRecord p) (plex_in c p there)

pub held_are : (c : Config) (good : ℕ) (v : Vol) → All (λ p. IsPlexOf c p) (held_plexes c good v.name)
held_are c good v = each_in (λ p. IsPlexOf c p) (held_plexes c good v.name) (λ p there. plex_of c p (held_taken c good v p there).0.there)

pub logs_are : (c : Config) (good : ℕ) (v : Vol) (fresh : Bool) → All (λ p. IsPlexOf c p) (used_logs v.dco c good fresh v.name)
logs_are c good v fresh = each_in (λ p. IsPlexOf c p) (used_logs v.dco c good fresh v.name) (λ p there. plex_of c p (log_taken c good v fresh v.dco p there).0.there)

-- the maps of data plexes and relations are below those of a mask
pub plexes_below : (c : Config) (v : Vol) → IsVolOf c v → (test : Plex → Bool) → All (λ m. m < 64) (maps_of (filter (λ p. is_data_plex_of v.name p && test p) c.plexes))
plexes_below c v of test = each_in (λ m. m < 64) (maps_of (filter (λ p. is_data_plex_of v.name p && test p) c.plexes)) (λ m there.
    let r = from_map (λ (p : Plex). map_or_zero p.map) (filter (λ p. is_data_plex_of v.name p && test p) c.plexes) m there in
    let w = filtered (λ p. is_data_plex_of v.name p && test p) c.plexes r.0 r.1 in
    let low = plex_low c v of r.0 w.0 (and_parts (is_data_plex_of v.name r.0) (test r.0) w.1).0 in
    let same = r.2 in
    omega (arith, low, same))

pub relations_below : (c : Config) (v : Vol) → IsVolOf c v → All (λ m. m < 64) (relation_maps c.snaps v.name)
relations_below c v of = each_in (λ m. m < 64) (relation_maps c.snaps v.name) (λ m there.
    let s = snap_among c v m (in_among m (relation_maps c.snaps v.name) there) in
    let low = relation_low c v of s.snap m s.has_it in
    omega (arith, low))

-- the maps of relations, one by one
one_more : (b d : Bool) (m n : ℕ) (xs ys : List ℕ) → xs ≡ ys → cons_option (cond b (Some m) (cond d (Some n) None)) xs ≡ cond b (m ∷ ys) (cond d (n ∷ ys) ys)
one_more true d m n xs ys e = ap (λ zs. m ∷ zs) e
one_more false true m n xs ys e = ap (λ zs. n ∷ zs) e
one_more false false m n xs ys e = e

pub relations_are : (ss : List Snap) (vol : Word) → filter_map (relation_map vol) ss ≡ relation_maps ss vol
relations_are [] vol = refl
relations_are (s ∷ ss) vol = one_more (bytes_eq s.vol vol) (bytes_eq s.of vol) s.map s.ofmap (filter_map (relation_map vol) ss) (relation_maps ss vol) (relations_are ss vol)
