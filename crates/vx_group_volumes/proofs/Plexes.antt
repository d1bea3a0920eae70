-- The plexes of a running volume by their names: what they were as it was opened, and what they are now.
use Rattle.std.proofs.Common.{◌≡◌, inl, inr, ℕ, Bool, true, false, cond, List, [], ◌∷◌, ◌++◌, map, refl, sym, ap, ◌∙◌, subst}
use Rattle.std.specs.Prelude.{◌&&◌, Contains}
use Rattle.std.specs.List.{filter}
use Rattle.std.specs.Str.{bytes_eq}
use Rattle.std.proofs.lemmas.Bool.{and_from, and_parts, false≢true}
use Rattle.vx_base.specs.Named.{Word}
use Rattle.vx_base.proofs.NamedLemmas.{bytes_eq_same, bytes_eq_self}
use Rattle.vx_config_parts.specs.declared.plex.Plex.{Plex}
use Rattle.vx_config_parts.specs.declared.plex.PlexKind.{PlexKind}
use Rattle.vx_config_parts.specs.declared.plex.PlexKind.TheVariants.{Data, Log}
use Rattle.vx_config_parts.specs.declared.vol.Vol.{Vol}
use Rattle.vx_config_parts.specs.Objects.{is_data, is_data_plex_of, is_log, is_log_plex_of, refers}
use Rattle.vx_objects.specs.declared.config.Config.{Config}
use Rattle.vx_image.proofs.PlexMembers.{IsIn, any_in, from_map, in_any, in_either, in_left, in_map}
use Rattle.vx_image.specs.Bytes.{Sectors, is_held, map_or_zero, plex_image}
use Rattle.vx_image.specs.Image.{PlexImage}
use Rattle.vx_image.proofs.Members.{is_in}
use Rattle.vx_moments.specs.Holding.{is_among}
use Rattle.vx_moments.specs.World.{Group}
use Rattle.vx_moments.specs.Owners.{owner_in, owner_of}
use Rattle.vx_image.specs.UsedPlexes.{held_plexes, used_logs}
use Rattle.vx_lending.proofs.Bits.{kept}
use Rattle.vx_lending.proofs.Distinct.{filtered}
use Rattle.vx_lending.proofs.Places.{held_taken, log_taken}
use Rattle.vx_lending.proofs.Rules.{one_plex}
use Rattle.vx_volume_laws.specs.Keeping.{KeepsPlex, KeepsVolume, data_plexes}
use Rattle.vx_volume_laws.proofs.Plexes.{zip_left, zip_right}
use Rattle.vx_group_volumes.specs.Runs.{Opening}
use Rattle.vx_group_volumes.specs.Opened.{WereThere, opened_plexes}

-- ---- as it was opened

-- the data plex of this name and map, as the volume was opened
pub record IsOpenedPlex (o : Opening) (p : PlexImage) : Type 0 where
  pub plex : Plex
  pub there : IsIn o.config.plexes plex
  pub data_is : is_data_plex_of o.vol.name plex ≡ true
  pub name_is : plex.name ≡ p.name
  pub map_is : map_or_zero plex.map ≡ p.map

pub opened_plex : (o : Opening) (plexes : List PlexImage) → WereThere o plexes → (p : PlexImage) → Contains plexes p → IsOpenedPlex o p
opened_plex o plexes were p there =
    let bytes : Sectors = λ slot sector. [] in
    let q = were bytes p there in
    let images = map (plex_image o.config o.good bytes) (filter (is_data_plex_of o.vol.name) o.config.plexes) in
    let r = from_map (plex_image o.config o.good bytes) (filter (is_data_plex_of o.vol.name) o.config.plexes) q.0 (is_in images q.0 q.1) in
    let w = filtered (is_data_plex_of o.vol.name) o.config.plexes r.0 r.1 in
    record { plex = r.0; there = w.0; data_is = w.1; name_is = ap (λ (x : PlexImage). x.name) (sym r.2) ∙ q.2; map_is = ap (λ (x : PlexImage). x.map) (sym r.2) ∙ q.3 }

-- a data plex's name is among those that the volume was opened with just where all its disks were good
pub among_held : (o : Opening) (p : Plex) → IsIn o.config.plexes p → is_data_plex_of o.vol.name p ≡ true → is_held o.config o.good p ≡ true → is_among p.name (opened_plexes o) ≡ true
among_held o p there data_is held =
    let names = map (λ (x : Plex). x.name) (held_plexes o.config o.good o.vol.name) in
    let logs = map (λ (x : Plex). x.name) (used_logs o.vol.dco o.config o.good o.fresh o.vol.name) in
    let one = kept (λ (x : Plex). is_data_plex_of o.vol.name x && is_held o.config o.good x) o.config.plexes p there (and_from _ _ data_is held) in
    in_any (λ n. bytes_eq n p.name) (names ++ logs) p.name (in_left names logs p.name (in_map (λ (x : Plex). x.name) (held_plexes o.config o.good o.vol.name) p one)) (bytes_eq_self p.name)

pub held_among : (o : Opening) (p : Plex) → IsIn o.config.plexes p → is_among p.name (opened_plexes o) ≡ true → is_held o.config o.good p ≡ true
held_among o p there among =
    let names = map (λ (x : Plex). x.name) (held_plexes o.config o.good o.vol.name) in
    let logs = map (λ (x : Plex). x.name) (used_logs o.vol.dco o.config o.good o.fresh o.vol.name) in
    let r = any_in (λ n. bytes_eq n p.name) (names ++ logs) among in
    let same = bytes_eq_same r.0 p.name r.2 in
    elim (in_either names logs r.0 r.1) [
      | inl a ↦
          let x = from_map (λ (x : Plex). x.name) (held_plexes o.config o.good o.vol.name) r.0 a in
          let t = (held_taken o.config o.good o.vol x.0 x.1).0 in
          subst (λ (y : Plex). is_held o.config o.good y ≡ true) (one_plex o.config x.0 p t.there there (sym x.2 ∙ same)) t.held
      | inr b ↦
          let x = from_map (λ (x : Plex). x.name) (used_logs o.vol.dco o.config o.good o.fresh o.vol.name) r.0 b in
          let t = (log_taken o.config o.good o.vol o.fresh o.vol.dco x.0 x.1).0 in
          subst (λ (y : Plex). is_held o.config o.good y ≡ true) (one_plex o.config x.0 p t.there there (sym x.2 ∙ same)) t.held
    ]

-- ---- now

-- the data plex that a data plex has become
pub record IsPlexNow (c0 : Config) (good0 : ℕ) (c : Config) (good : ℕ) (vol : Word) (p : Plex) : Type 0 where
  pub plex : Plex
  pub there : IsIn c.plexes plex
  pub data_is : is_data_plex_of vol plex ≡ true
  pub keeps : KeepsPlex c0 good0 c good p plex

module _ (c0 : Config) (good0 : ℕ) (v0 : Vol) (fresh : Bool) (c : Config) (good : ℕ) (v : Vol) (keeps : KeepsVolume c0 good0 v0 fresh c good v) where
  pub plex_now : (p : Plex) → IsIn c0.plexes p → is_data_plex_of v0.name p ≡ true → IsPlexNow c0 good0 c good v.name p
  plex_now p there data_is =
      let r = zip_left (KeepsPlex c0 good0 c good) (data_plexes c0 v0.name) (data_plexes c v.name) keeps.plexes p (kept (is_data_plex_of v0.name) c0.plexes p there data_is) in
      let w = filtered (is_data_plex_of v.name) c.plexes r.0 r.1 in
      record { plex = r.0; there = w.0; data_is = w.1; keeps = r.2 }

  not_both : (k : PlexKind) → is_data k ≡ true → is_log k ≡ true → ⊥
  not_both Data a b = false≢true b
  not_both Log a b = false≢true a

  -- a plex of the volume with the name of a log plex is one
  pub log_now : (p q : Plex) → IsIn c0.plexes p → is_log p.kind ≡ true → IsIn c.plexes q → q.name ≡ p.name → refers q.vol v.name ≡ true → is_log_plex_of v.name q ≡ true
  log_now p q here log there same own = and_from _ _ own (by q.kind refl)
    where
      by : (k : PlexKind) → q.kind ≡ k → is_log k ≡ true
      by Log e = refl
      by Data e =
          let data_is : is_data_plex_of v.name q ≡ true = and_from _ _ own (ap is_data e) in
          let r = zip_right (KeepsPlex c0 good0 c good) (data_plexes c0 v0.name) (data_plexes c v.name) keeps.plexes q (kept (is_data_plex_of v.name) c.plexes q there data_is) in
          let w = filtered (is_data_plex_of v0.name) c0.plexes r.0 r.1 in
          let one = one_plex c0 r.0 p w.0 here (sym r.2.name ∙ same) in
          absurd (not_both p.kind (subst (λ (x : Plex). is_data x.kind ≡ true) one (and_parts (refers r.0.vol v0.name) (is_data r.0.kind) w.1).1) log)

-- ---- as tracks see them

module _ (g : Group) (vol : Word) (names : List Word) where
  owner_by : (ps : List Plex) (q : Plex) → IsIn ps q → is_data_plex_of vol q ≡ true → ((p : Plex) → IsIn ps p → p.name ≡ q.name → p ≡ q) → owner_in g vol names ps q.name ≡ owner_of g names q
  owner_by [] q there data_is one = absurd there
  owner_by (p ∷ ps) q there data_is one = by (λ later. owner_by ps q later data_is (λ x h. one x (inr h))) (bytes_eq p.name q.name && is_data_plex_of vol p) refl
    where
      itself : p ≡ q → (bytes_eq p.name q.name && is_data_plex_of vol p) ≡ true
      itself same = subst (λ (x : Plex). (bytes_eq x.name q.name && is_data_plex_of vol x) ≡ true) (sym same) (and_from _ _ (bytes_eq_self q.name) data_is)

      by : (IsIn ps q → owner_in g vol names ps q.name ≡ owner_of g names q) → (b : Bool) → (bytes_eq p.name q.name && is_data_plex_of vol p) ≡ b →
          cond b (owner_of g names p) (owner_in g vol names ps q.name) ≡ owner_of g names q
      by rest true e = ap (owner_of g names) (one p (inl refl) (bytes_eq_same p.name q.name (and_parts (bytes_eq p.name q.name) (is_data_plex_of vol p) e).0))
      by rest false e = elim there [
        | inl same ↦ absurd (false≢true (sym e ∙ itself (sym same)))
        | inr later ↦ rest later
      ]

  -- under its name a data plex is found
  pub owner_is : (q : Plex) → IsIn g.config.plexes q → is_data_plex_of vol q ≡ true → owner_in g vol names g.config.plexes q.name ≡ owner_of g names q
  owner_is q there data_is = owner_by g.config.plexes q there data_is (λ p here same. one_plex g.config p q here there same)
