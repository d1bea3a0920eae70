-- What a house shows is what is to be shown of its world.
use Rattle.std.proofs.Common.{◌≡◌, inl, inr, ℕ, Bool, true, false, Option, Some, None, is_some, List, [], ◌∷◌, refl, sym, ap, ◌∙◌, subst}
use Rattle.std.specs.Prelude.{◌||◌, if◌then◌else◌, IfSome, MatchOption, map}
use Rattle.std.specs.List.{cons_option, filter_map, list_any}
use Rattle.std.specs.Str.{bytes_eq}
use Rattle.std.proofs.lemmas.Bool.{false≢true}
use Rattle.vx_base.specs.Named.{Word}
use Rattle.vx_base.proofs.NamedLemmas.{bytes_eq_same, bytes_eq_self}
use Rattle.vx_piece.specs.Seen.{Seen}
use Rattle.vx_copies.specs.Disks.{DiskSeen, HasSlot, good_mask}
use Rattle.vx_copies.specs.Lists.{AllOf}
use Rattle.vx_confdb.specs.Groups.{IsAlive, IsGroup, members}
use Rattle.vx_confdb.specs.declared.group.Group.{Group as Base}
use Rattle.vx_config_parts.specs.declared.plex.Plex.{Plex}
use Rattle.vx_objects.specs.declared.config.Config.{Config}
use Rattle.vx_image.specs.Bytes.{is_held}
use Rattle.vx_image.proofs.PlexMembers.{IsIn, any_in, in_any}
use Rattle.vx_hierarchy.specs.Hierarchy.{IsHierarchy}
use Rattle.vx_hierarchy.specs.Rows.{is_lent, is_started, stays_held}
use Rattle.vx_hierarchy.proofs.SameRows.{hierarchy_same}
use Rattle.vx_answers.specs.declared.answer.View.{View as Shown}
use Rattle.vx_answers.specs.declared.answer.View.TheVariants.{Text}
use Rattle.vx_moments.specs.World.{Group, Lies, OnDevice, OnPlexes, Volume, World}
use Rattle.vx_moments.specs.Leaving.{grouped, grouped_by}
use Rattle.vx_pages.specs.declared.local_piece.LocalPiece.{Ghosts}
use Rattle.vx_lending.specs.Public.{running_at}
use Rattle.vx_lending.specs.declared.public.Public.{Public}
use Rattle.vx_lending.specs.declared.public.Running.{Running}
use Rattle.vx_lending.proofs.Rules.{one_plex}
use Rattle.vx_plans.specs.Showing.{is_held_in, is_lent_to, is_running, lies_on, runs_on}
use Rattle.vx_house.specs.Runs.{AreRuns, IsAtRun, IsRunOf, fronts_in}
use Rattle.vx_house.specs.View.{IsGroupKept, group_of, member_of}
use Rattle.vx_house.specs.declared.house.Imported.{Imported}
use Rattle.vx_run.specs.Lent.{is_lent_by, lent_plexes, runs_by}
use Rattle.vx_run.specs.Shows.{ShowsOf, ShowsVolumes}
use Rattle.vx_run.proofs.LentPlexes.{lent_opened, same_bool}

-- ---- names of plexes

-- the names of those that pass a test
from_named : (test : Plex → Bool) (ps : List Plex) (n : Word) → IsIn (filter_map (λ q. if test q then Some q.name else None) ps) n → (q : Plex) × IsIn ps q × (test q ≡ true) × (n ≡ q.name)
from_named test [] n h = absurd h
from_named test (q ∷ qs) n h = by (λ k. from_named test qs n k) (test q) refl h
  where
    by : (IsIn (filter_map (λ q. if test q then Some q.name else None) qs) n → (x : Plex) × IsIn qs x × (test x ≡ true) × (n ≡ x.name)) → (b : Bool) → test q ≡ b
        → IsIn (cons_option (if b then Some q.name else None) (filter_map (λ q. if test q then Some q.name else None) qs)) n → (x : Plex) × IsIn (q ∷ qs) x × (test x ≡ true) × (n ≡ x.name)
    by on true e (inl same) = (q, inl refl, e, same)
    by on true e (inr later) = let r = on later in (r.0, inr r.1, r.2, r.3)
    by on false e later = let r = on later in (r.0, inr r.1, r.2, r.3)

into_named : (test : Plex → Bool) (ps : List Plex) (q : Plex) → IsIn ps q → test q ≡ true → IsIn (filter_map (λ q. if test q then Some q.name else None) ps) q.name
into_named test [] q there is = absurd there
into_named test (p ∷ ps) q (inl same) is = by (test p) (ap test (sym same) ∙ is)
  where
    by : (b : Bool) → b ≡ true → IsIn (cons_option (if b then Some p.name else None) (filter_map (λ q. if test q then Some q.name else None) ps)) q.name
    by true e = inl (ap (λ (x : Plex). x.name) same)
    by false e = absurd (false≢true e)
into_named test (p ∷ ps) q (inr later) is = by (into_named test ps q later is) (test p)
  where
    by : IsIn (filter_map (λ q. if test q then Some q.name else None) ps) q.name → (b : Bool) → IsIn (cons_option (if b then Some p.name else None) (filter_map (λ q. if test q then Some q.name else None) ps)) q.name
    by on true = inr on
    by on false = on

-- among the names of a configuration's plexes that pass it is just that of one that does
named_passes : (c : Config) (test : Plex → Bool) (p : Plex) → IsIn c.plexes p → list_any (λ n. bytes_eq n p.name) (filter_map (λ q. if test q then Some q.name else None) c.plexes) ≡ test p
named_passes c test p there = same_bool _ _
    (λ named.
    let n = any_in (λ (w : Word). bytes_eq w p.name) (filter_map (λ q. if test q then Some q.name else None) c.plexes) named in
    let q = from_named test c.plexes n.0 n.1 in
    subst (λ (x : Plex). test x ≡ true) (one_plex c q.0 p q.1 there (sym q.3 ∙ bytes_eq_same n.0 p.name n.2)) q.2)
    (λ is. in_any (λ (w : Word). bytes_eq w p.name) (filter_map (λ q. if test q then Some q.name else None) c.plexes) p.name (into_named test c.plexes p there is) (bytes_eq_self p.name))

-- ---- of the world

grouped_there : (o : Option Volume) (v : Volume) → grouped o ≡ Some v → o ≡ Some v
grouped_there None v e = cc
grouped_there (Some u) v e = by u.lies e
  where
    by : (l : Lies) → grouped_by l u ≡ Some v → Some u ≡ Some v
    by (OnDevice device) e = cc
    by (OnPlexes plexes) e = e

alive_group : {P : Type 0} (see : P → Seen) (g : Base P) → g.lost ≡ None → IsAlive see g → IsGroup see g
alive_group see g none alive = subst (λ l. MatchOption l (IsAlive see g) (λ x. AllOf HasSlot (members see g))) (sym none) alive

module _ {P : Type 0} {ghosts : Ghosts P} (see : P → Seen) where
  started_same : (hs : List DiskSeen) (g : Option Group) (name : Word) (r : Option (Running P ghosts)) (v : Option Volume) → IsAtRun see hs g name r v → is_some r ≡ is_some v
  started_same hs g name None None is = refl
  started_same hs g name None (Some v) is = absurd is
  started_same hs g name (Some r) None is = absurd is
  started_same hs g name (Some r) (Some v) is = refl

  module _ (hs : List DiskSeen) (g : Group) (public : Public P ghosts) (w : World) (p : Plex) (there : IsIn g.config.plexes p) (vol : Word) (of : p.vol ≡ Some vol) where
    -- a plex of a volume that runs is lent here just where it is in the world
    lent_same : (r : Running P ghosts) (v : Volume) → running_at public vol ≡ Some r → grouped (w.volumes vol) ≡ Some v → IsRunOf see hs g vol r v → is_lent (lent_plexes g.config public) p.name ≡ is_lent_to w p.vol p.name
    lent_same r v is at run =
        named_passes g.config (λ q. is_lent_by g.config public q.vol q.name) p there
        ∙ ap (λ (o : Option Word). is_lent_by g.config public o p.name) of
        ∙ ap (λ (x : Option (Running P ghosts)). runs_by g.config x p.name) is
        ∙ lent_opened see g.config g.good run.numbers run.of r run.placed p there
        ∙ sym (ap (λ (l : Lies). lies_on l p.name) run.lies)
        ∙ sym (ap (λ (x : Option Volume). runs_on x p.name) (grouped_there (w.volumes vol) v at))
        ∙ sym (ap (λ (o : Option Word). is_lent_to w o p.name) of)

    held_same : (r : Option (Running P ghosts)) (v : Option Volume) → running_at public vol ≡ r → grouped (w.volumes vol) ≡ v → IsAtRun see hs (Some g) vol r v → is_some r ≡ true
        → stays_held g.config g.good (lent_plexes g.config public) p ≡ is_held_in w g p
    held_same None v is at run there = absurd (false≢true there)
    held_same (Some r) None is at run there = absurd run
    held_same (Some r) (Some v) is at run there = ap (λ (b : Bool). is_held g.config g.good p || b) (lent_same r v is at run)

  -- the records of the group
  pub shown_records : (o : Option (Imported P ghosts)) (wg : Option Group) (vol : Option Word) (views : List Shown) → wg ≡ group_of see o
      → MatchOption o ⊥ (λ g. (text : List ℕ) × (views ≡ Text text ∷ []) × ShowsOf vol g.config text) → MatchOption wg ⊥ (λ g. (text : List ℕ) × (views ≡ Text text ∷ []) × ShowsOf vol g.config text)
  shown_records None wg vol views same shows = absurd shows
  shown_records (Some g) wg vol views same shows = subst (λ (x : Option Group). MatchOption x ⊥ (λ g. (text : List ℕ) × (views ≡ Text text ∷ []) × ShowsOf vol g.config text)) (sym same) shows

  -- the volumes of the group
  pub shown_volumes : (o : Option (Imported P ghosts)) (w : World) (vol : Option Word) (views : List Shown) → w.group ≡ group_of see o → AreRuns see o w.group w.volumes
      → MatchOption o ⊥ (λ g. (text : List ℕ) × (views ≡ Text text ∷ []) × ShowsVolumes see vol g text)
      → MatchOption w.group ⊥ (λ g. (text : List ℕ) × (views ≡ Text text ∷ []) × IsHierarchy g.config (is_held_in w g) (is_running w) vol [] text)
  shown_volumes None w vol views same runs shows = absurd shows
  shown_volumes (Some g) w vol views same runs (text, is, shows) =
      let gw : Group = record { config = g.config; good = good_mask (members see g.base); members = map member_of g.base.disks.items; sequence = g.base.sequence } in
      let there : AreRuns see (Some g) (Some gw) w.volumes = subst (λ (x : Option Group). AreRuns see (Some g) x w.volumes) same runs in
      subst (λ (x : Option Group). MatchOption x ⊥ (λ g. (text : List ℕ) × (views ≡ Text text ∷ []) × IsHierarchy g.config (is_held_in w g) (is_running w) vol [] text)) (sym same) (
        text,
        is,
        hierarchy_same g.config (stays_held g.config (good_mask (members see g.base)) (lent_plexes g.config g.public)) (is_held_in w gw) (is_started g.public.running) (is_running w)
            (λ name. started_same (fronts_in see (Some g)) (Some gw) name (running_at g.public name) (grouped (w.volumes name)) (there name))
            (λ p name at of started. held_same (fronts_in see (Some g)) gw g.public w p at name of (running_at g.public name) (grouped (w.volumes name)) refl refl (there name) started)
            vol [] text shows,
      )

  -- ---- in the house

  -- the next commit of a group that is kept can be written
  pub group_alive : (o : Option (Imported P ghosts)) → IfSome o (IsGroupKept see) → MatchOption o ⊥ (λ g. Unit {0}) → MatchOption o ⊥ (λ g. IsGroup see g.base)
  group_alive None kept there = there
  group_alive (Some g) kept there = alive_group see g.base kept.carries.lost kept.carries.alive
