-- Lists without what stands at a place.
use Rattle.std.proofs.Common.{◌≡◌, inl, inr, ℕ, zero, suc, ◌<◌, Bool, true, false, cond, not, Option, Some, None, List, [], ◌∷◌, length, sym, ◌∙◌, ap, subst, arith}
use Rattle.std.specs.List.{AllZip, filter, remove}
use Rattle.std.specs.Str.{bytes_eq}
use Rattle.vx_base.specs.Named.{Word}
use Rattle.vx_base.proofs.NamedLemmas.{bytes_eq_self}
use Rattle.vx_config_parts.specs.declared.plex.Plex.{Plex}
use Rattle.vx_objects.specs.declared.config.Config.{Config}
use Rattle.vx_image.specs.UsedPlexes.{is_used_log, used_logs}
use Rattle.vx_image.proofs.PlexMembers.{IsIn}
use Rattle.vx_lending.proofs.Distinct.{AreDistinct, distinct_filter}
use Rattle.vx_lending.proofs.Rules.{plex_names}
use Rattle.vx_volume_laws.proofs.Held.{IsPlaceOf}
use Rattle.vx_group_edits.proofs.Lists.{filter_passed}
use Rattle.vx_joined_volumes.proofs.PartEdits.{is_other, name_other}

-- lists that go together do so without what stands at a place
pub zip_removed : {A B : Type 0} (R : A → B → Type 0) (xs : List A) (ys : List B) (k : ℕ) → AllZip R xs ys → k < length xs → AllZip R (remove xs k) (remove ys k)
zip_removed R [] ys k zip lt = absurd (omega (arith, lt))
zip_removed R (x ∷ xs) [] k zip lt = absurd zip
zip_removed R (x ∷ xs) (y ∷ ys) zero zip lt = zip.1
zip_removed R (x ∷ xs) (y ∷ ys) (suc k) zip lt = (zip.0, zip_removed R xs ys k zip.1 (omega (arith, lt)))

place_there : {A : Type 0} (xs : List A) (x : A) (k : ℕ) → IsPlaceOf xs x k → IsIn xs x
place_there [] x k place = let lt = place.inside in absurd (omega (arith, lt))
place_there (y ∷ xs) x zero place = inl (sym (place.at y))
place_there (y ∷ xs) x (suc k) place = let lt = place.inside in inr (place_there xs x k (record { inside = omega (arith, lt); at = place.at }))

-- of plexes whose names differ those of another name than one of them are all but that one
pub others_of : (p : Plex) (qs : List Plex) (k : ℕ) → AreDistinct (λ (q : Plex). q.name) qs → IsPlaceOf qs p k → filter (is_other p.name) qs ≡ remove qs k
others_of p [] k differ place = let lt = place.inside in absurd (omega (arith, lt))
others_of p (q ∷ qs) zero differ place =
    let same : q ≡ p = place.at q in
    let gone : is_other p.name q ≡ false = ap not (subst (λ (x : Plex). bytes_eq q.name x.name ≡ true) same (bytes_eq_self q.name)) in
    ap (λ b. cond b (q ∷ filter (is_other p.name) qs) (filter (is_other p.name) qs)) gone
    ∙ filter_passed (is_other p.name) qs (λ x there. name_other p.name x (λ named. differ.0 x there (ap (λ (y : Plex). y.name) same ∙ sym named)))
others_of p (q ∷ qs) (suc k) differ place =
    let lt = place.inside in
    let rest : IsPlaceOf qs p k = record { inside = omega (arith, lt); at = place.at } in
    let stays : is_other p.name q ≡ true = name_other p.name q (differ.0 p (place_there qs p k rest)) in
    ap (λ b. cond b (q ∷ filter (is_other p.name) qs) (filter (is_other p.name) qs)) stays
    ∙ ap (λ ys. q ∷ ys) (others_of p qs k differ.1 rest)

-- the names of the logs that are used differ
pub logs_differ : (c : Config) (good : ℕ) (fresh : Bool) (vol : Word) (dco : Option Word) → AreDistinct (λ (q : Plex). q.name) (used_logs dco c good fresh vol)
logs_differ c good fresh vol None = tt
logs_differ c good fresh vol (Some dco) = distinct_filter (λ (q : Plex). q.name) (is_used_log c good fresh vol) c.plexes (plex_names c)
