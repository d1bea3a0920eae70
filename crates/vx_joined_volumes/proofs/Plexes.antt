-- The plexes of a volume as it was opened, and now: they go together, and all disks of one are good where those of the other were.
use Rattle.std.proofs.Common.{◌≡◌, ℕ, Bool, true, false, not, Option, Some, None, List, map, refl, sym, ◌∙◌, ap, subst}
use Rattle.std.specs.Prelude.{◌&&◌}
use Rattle.std.specs.List.{AllZip, filter}
use Rattle.std.proofs.lemmas.Bool.{and_parts, false≢true, false_from_ne_true}
use Rattle.vx_base.specs.Named.{Word}
use Rattle.vx_piece.specs.Seen.{Seen}
use Rattle.vx_pages.specs.declared.local_piece.LocalPiece.{Ghosts}
use Rattle.vx_config_parts.specs.declared.plex.Plex.{Plex}
use Rattle.vx_config_parts.specs.declared.plex.PlexKind.{PlexKind}
use Rattle.vx_config_parts.specs.declared.plex.PlexKind.TheVariants.{Data, Log}
use Rattle.vx_config_parts.specs.declared.state.PlexState.{PlexState}
use Rattle.vx_config_parts.specs.declared.state.PlexState.TheVariants as plex
use Rattle.vx_config_parts.specs.declared.vol.Vol.{Vol}
use Rattle.vx_config_parts.specs.Objects.{is_data, is_data_plex_of, is_log, is_log_plex_of, refers}
use Rattle.vx_objects.specs.declared.config.Config.{Config}
use Rattle.vx_image.proofs.PlexMembers.{IsIn}
use Rattle.vx_image.specs.Bytes.{is_active, is_held, map_or_zero}
use Rattle.vx_image.specs.Image.{is_available_state}
use Rattle.vx_image.specs.UsedPlexes.{held_plexes, is_on, is_used_log, is_used_state, off_plexes, on_plexes, used_logs}
use Rattle.vx_lending.proofs.Distinct.{filtered}
use Rattle.vx_volume_laws.specs.Keeping.{KeepsLogPlex, KeepsPlex, LiesStill, data_plexes, log_plexes}
use Rattle.vx_volume_laws.proofs.Restated.{zip_filter}
use Rattle.vx_lending.specs.declared.public.Running.{Running}
use Rattle.vx_group_volumes.specs.Places.{RunsInPlace}
use Rattle.vx_group_volumes.specs.Runs.{Opening}
use Rattle.vx_joined_volumes.specs.Joined.{good_joined}
use Rattle.vx_joined_volumes.proofs.Held.{held_joined}
use Rattle.vx_joined_volumes.proofs.Zips.{filter_twice, zip_map, zip_more}

-- The plex is the other, its state perhaps another: it lies where that one lies, and all its disks are good just where those of it are.
pub record IsSamePlex (c0 : Config) (good0 : ℕ) (c : Config) (good : ℕ) (p q : Plex) : Type 0 where
  pub name : q.name ≡ p.name
  pub lies : LiesStill c0 c p q
  pub held : is_held c good q ≡ is_held c0 good0 p

-- .. and as a data plex it has its map, and is in a state that is available just where that one is
pub record IsSameData (c0 : Config) (good0 : ℕ) (c : Config) (good : ℕ) (p q : Plex) : Type 0 where
  pub same : IsSamePlex c0 good0 c good p q
  pub map : map_or_zero q.map ≡ map_or_zero p.map
  pub available : is_available_state q.state ≡ is_available_state p.state

-- .. and as a log plex it is used just where that one is
pub record IsSameLog (c0 : Config) (good0 : ℕ) (fresh : Bool) (c : Config) (good : ℕ) (p q : Plex) : Type 0 where
  pub same : IsSamePlex c0 good0 c good p q
  pub used : is_used_state false q.state ≡ is_used_state fresh p.state

pub used_active : (s : PlexState) → is_used_state false s ≡ is_active s
used_active plex.Empty = refl
used_active plex.Clean = refl
used_active plex.Active = refl
used_active plex.IoFail = refl
used_active plex.Stale = refl
used_active plex.SnapAtt = refl
used_active plex.SnapDone = refl
used_active plex.DcoSnp = refl

no_log : (k : PlexKind) → is_data k ≡ true → is_log k ≡ false
no_log Data data_is = refl
no_log Log data_is = absurd (false≢true data_is)

-- a data plex is no log plex
pub data_no_log : (vol : Word) (p : Plex) → is_data_plex_of vol p ≡ true → is_log_plex_of vol p ≡ false
data_no_log vol p data_is =
    let own = (and_parts (refers p.vol vol) (is_data p.kind) data_is).1 in
    false_from_ne_true _ (λ log. false≢true (sym (no_log p.kind own) ∙ (and_parts (refers p.vol vol) (is_log p.kind) log).1))

module _ {P : Type 0} {ghosts : Ghosts P} (see : P → Seen) (running : Running P ghosts) (c : Config) (good : ℕ) (numbers : List ℕ) (v : Vol) (placed : RunsInPlace see c good numbers v running) where
  abbrev o : Opening
  o = placed.runs.opening

  abbrev joined : ℕ
  joined = good_joined placed.runs.opening good

  -- ---- data

  same_data : (p q : Plex) → IsIn (data_plexes o.config o.vol.name) p → IsIn (data_plexes c v.name) q → KeepsPlex o.config o.good c good p q → IsSameData o.config o.good c joined p q
  same_data p q here there keeps =
      let a = filtered (is_data_plex_of o.vol.name) o.config.plexes p here in
      let b = filtered (is_data_plex_of v.name) c.plexes q there in
      let own = (and_parts (refers p.vol o.vol.name) (is_data p.kind) a.1).0 in
      record { same = record { name = keeps.name; lies = keeps.lies; held = held_joined o c good placed.were_good p q a.0 own b.0 keeps.lies }; map = keeps.map; available = keeps.available }

  pub same_datas : AllZip (IsSameData o.config o.good c joined) (data_plexes o.config o.vol.name) (data_plexes c v.name)
  same_datas = zip_more (KeepsPlex o.config o.good c good) (IsSameData o.config o.good c joined) (data_plexes o.config o.vol.name) (data_plexes c v.name) placed.runs.keeps.plexes same_data

  -- those that pass a test go together, if they pass it alike
  data_that : (t u : Plex → Bool) → ((p q : Plex) → IsSameData o.config o.good c joined p q → u q ≡ t p) →
      AllZip (IsSameData o.config o.good c joined) (filter (λ p. is_data_plex_of o.vol.name p && t p) o.config.plexes) (filter (λ p. is_data_plex_of v.name p && u p) c.plexes)
  data_that t u alike =
      subst (λ ps. AllZip (IsSameData o.config o.good c joined) ps (filter (λ p. is_data_plex_of v.name p && u p) c.plexes)) (filter_twice (is_data_plex_of o.vol.name) t o.config.plexes)
      (subst (λ qs. AllZip (IsSameData o.config o.good c joined) (filter t (data_plexes o.config o.vol.name)) qs) (filter_twice (is_data_plex_of v.name) u c.plexes)
      (zip_filter (IsSameData o.config o.good c joined) (IsSameData o.config o.good c joined) t u alike (λ p q same passes. same) (data_plexes o.config o.vol.name) (data_plexes c v.name) same_datas))

  pub held_same : AllZip (IsSameData o.config o.good c joined) (held_plexes o.config o.good o.vol.name) (held_plexes c joined v.name)
  held_same = data_that (is_held o.config o.good) (is_held c joined) (λ p q s. s.same.held)

  on_alike : (p q : Plex) → IsSameData o.config o.good c joined p q → is_on c joined q ≡ is_on o.config o.good p
  on_alike p q s = ap (λ b. b && is_available_state q.state) s.same.held ∙ ap (λ b. is_held o.config o.good p && b) s.available

  pub on_same : AllZip (IsSameData o.config o.good c joined) (on_plexes o.config o.good o.vol.name) (on_plexes c joined v.name)
  on_same = data_that (is_on o.config o.good) (is_on c joined) on_alike

  pub off_same : AllZip (IsSameData o.config o.good c joined) (off_plexes o.config o.good o.vol.name) (off_plexes c joined v.name)
  off_same = data_that (λ p. not (is_on o.config o.good p)) (λ q. not (is_on c joined q)) (λ p q s. ap not (on_alike p q s))

  pub maps_same : (ps qs : List Plex) → AllZip (IsSameData o.config o.good c joined) ps qs → map (λ (q : Plex). map_or_zero q.map) qs ≡ map (λ (p : Plex). map_or_zero p.map) ps
  maps_same ps qs zip = zip_map (IsSameData o.config o.good c joined) (λ (p : Plex). map_or_zero p.map) (λ (q : Plex). map_or_zero q.map) (λ p q s. s.map) ps qs zip

  -- ---- its log

  same_log : (p q : Plex) → IsIn (log_plexes o.config o.vol.name) p → IsIn (log_plexes c v.name) q → KeepsLogPlex o.config o.fresh c p q → IsSameLog o.config o.good o.fresh c joined p q
  same_log p q here there keeps =
      let a = filtered (is_log_plex_of o.vol.name) o.config.plexes p here in
      let b = filtered (is_log_plex_of v.name) c.plexes q there in
      let own = (and_parts (refers p.vol o.vol.name) (is_log p.kind) a.1).0 in
      record { same = record { name = keeps.name; lies = keeps.lies; held = held_joined o c good placed.were_good p q a.0 own b.0 keeps.lies }; used = used_active q.state ∙ keeps.used }

  used_alike : (p q : Plex) → IsSameLog o.config o.good o.fresh c joined p q → (is_used_state false q.state && is_held c joined q) ≡ (is_used_state o.fresh p.state && is_held o.config o.good p)
  used_alike p q s = ap (λ b. b && is_held c joined q) s.used ∙ ap (λ b. is_used_state o.fresh p.state && b) s.same.held

  used_same : AllZip (IsSameLog o.config o.good o.fresh c joined) (filter (is_used_log o.config o.good o.fresh o.vol.name) o.config.plexes) (filter (is_used_log c joined false v.name) c.plexes)
  used_same =
      let was : Plex → Bool = λ p. is_used_state o.fresh p.state && is_held o.config o.good p in
      let now : Plex → Bool = λ q. is_used_state false q.state && is_held c joined q in
      let all = zip_more (KeepsLogPlex o.config o.fresh c) (IsSameLog o.config o.good o.fresh c joined) (log_plexes o.config o.vol.name) (log_plexes c v.name) placed.runs.keeps.log_plexes_are same_log in
      subst (λ ps. AllZip (IsSameLog o.config o.good o.fresh c joined) ps (filter (is_used_log c joined false v.name) c.plexes)) (filter_twice (is_log_plex_of o.vol.name) was o.config.plexes)
      (subst (λ qs. AllZip (IsSameLog o.config o.good o.fresh c joined) (filter was (log_plexes o.config o.vol.name)) qs) (filter_twice (is_log_plex_of v.name) now c.plexes)
      (zip_filter (IsSameLog o.config o.good o.fresh c joined) (IsSameLog o.config o.good o.fresh c joined) was now used_alike (λ p q same passes. same) (log_plexes o.config o.vol.name) (log_plexes c v.name) all))

  by_dco : (dco dco0 : Option Word) → dco ≡ dco0 → AllZip (IsSameLog o.config o.good o.fresh c joined) (used_logs dco0 o.config o.good o.fresh o.vol.name) (used_logs dco c joined false v.name)
  by_dco None None e = tt
  by_dco None (Some d) e = absurd cc
  by_dco (Some d) None e = absurd cc
  by_dco (Some d) (Some d0) e = used_same

  pub logs_same : AllZip (IsSameLog o.config o.good o.fresh c joined) (used_logs o.vol.dco o.config o.good o.fresh o.vol.name) (used_logs v.dco c joined false v.name)
  logs_same = by_dco v.dco o.vol.dco placed.runs.keeps.dco
