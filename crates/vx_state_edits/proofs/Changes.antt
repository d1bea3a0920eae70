-- What the edits of a volume and its plexes make of a configuration: the same in other states.
use Rattle.std.proofs.Common.{◌≡◌, Bool, true, false, is_none, Option, Some, None, List, [], ◌∷◌, map, refl, sym, ◌∙◌, ap, subst, if◌then◌else◌, inl, inr}
use Rattle.std.specs.List.{AllZip}
use Rattle.std.specs.Str.{bytes_eq}
use Rattle.vx_base.specs.Named.{Word}
use Rattle.vx_base.proofs.NamedLemmas.{bytes_eq_self, bytes_eq_same}
use Rattle.vx_config_parts.specs.declared.fault.ObjectFault.{ObjectFault}
use Rattle.vx_config_parts.specs.declared.object.Object.{Object}
use Rattle.vx_config_parts.specs.declared.object.Object.TheVariants.{GroupRecord, DiskRecord, SubdiskRecord, PlexRecord, VolRecord, DcoRecord, SnapRecord}
use Rattle.vx_config_parts.specs.declared.plex.Plex.{Plex}
use Rattle.vx_config_parts.specs.declared.state.PlexState.{PlexState}
use Rattle.vx_config_parts.specs.declared.state.VolState.{VolState}
use Rattle.vx_config_parts.specs.declared.vol.PolicyKind.{PolicyKind}
use Rattle.vx_config_parts.specs.declared.vol.PolicyKind.TheVariants as kind
use Rattle.vx_config_parts.specs.declared.vol.Vol.{Vol}
use Rattle.vx_config_parts.specs.Objects.{refers}
use Rattle.vx_rules.specs.declared.rule.Rule.{Rule}
use Rattle.vx_rules.specs.declared.rule.Rule.TheVariants as rule
use Rattle.vx_rules.specs.Faults.{first_of}
use Rattle.vx_rules.specs.Maps.{prefer_fault_of}
use Rattle.vx_rules.specs.References.{repeated_after}
use Rattle.vx_rules.specs.Rules.{fault_in, fault_over, fault_of, first_broken_of, rules, first_broken, is_valid}
use Rattle.vx_rules.proofs.InOrder.{names_differ}
use Rattle.vx_objects.specs.declared.config.Config.{Config}
use Rattle.vx_objects.specs.Applied.{IsEdited}
use Rattle.vx_objects.specs.Config.{objects_of}
use Rattle.vx_objects.specs.Edits.{edited_by, policy_kind, policy_plex, set_vol}
use Rattle.vx_objects.specs.Parts.{in_kinds}
use Rattle.vx_objects.proofs.InKinds.{are_sorted}
use Rattle.vx_objects.proofs.OneGroup.{first_none, second_none}
use Rattle.vx_state_edits.specs.Edits.{plexes_of, policy_of, state_edits}
use Rattle.vx_state_edits.specs.Laws.{IsAmong, IsRecorded, IsPlexAfter, Restates, in_state}
use Rattle.vx_state_edits.proofs.ByKind.{records_restated, HasKinds, has_kinds, plex_recorded, vol_recorded, records_plex, records_vol}
use Rattle.vx_state_edits.proofs.Members.{among_map, any_among, any_from, in_filter, from_filter, map_alike, one_record}
use Rattle.vx_state_edits.proofs.Restating.{plex_in, vol_in, restated}
use Rattle.vx_state_edits.proofs.Steps.{set_all, is_named, both_edited, set_none, set_named}

-- ---- a valid configuration

nothing : {A : Type 0} (o : Option A) → is_none o ≡ true → o ≡ None
nothing None e = refl
nothing (Some x) e = cc

none_broken : (all : List Object) → is_valid all ≡ true → first_broken all ≡ None
unfolding is_valid
none_broken all valid = nothing (first_broken all) valid

-- no rule is broken in a configuration
pub is_kept : (c : Config) → first_broken (objects_of c) ≡ None
is_kept c = none_broken (objects_of c) c.valid

one_rule : (all : List Object) (rs : List Rule) (r : Rule) → IsAmong rs r → first_broken_of rs all ≡ None → fault_of r all ≡ None
one_rule all [] r m e = elim m [ ]
one_rule all (q ∷ rs) r (inl is) e = ap (λ (x : Rule). fault_of x all) is ∙ first_none (fault_of q all) (first_broken_of rs all) e
one_rule all (q ∷ rs) r (inr m) e = one_rule all rs r m (second_none (fault_of q all) (first_broken_of rs all) e)

one_fault : (check : Object → Option ObjectFault) (os : List Object) (o : Object) → IsAmong os o → first_of check os ≡ None → check o ≡ None
one_fault check [] o m e = elim m [ ]
one_fault check (p ∷ os) o (inl is) e = ap check is ∙ first_none (check p) (first_of check os) e
one_fault check (p ∷ os) o (inr m) e = one_fault check os o m (second_none (check p) (first_of check os) e)

preferred : (all : List Object) → first_broken all ≡ None → fault_of rule.PreferredPlexIsThere all ≡ None
unfolding first_broken
preferred all e = one_rule all rules rule.PreferredPlexIsThere (inr (inr (inr (inr (inr (inr (inr (inr (inr (inr (inr (inr (inr (inr (inl refl))))))))))))))) e

-- the plex that a volume prefers is there, where it prefers one
prefers : (all : List Object) → first_broken all ≡ None → (v : Vol) → IsAmong all (VolRecord v) → prefer_fault_of all v.name v.rdpol v.prefer ≡ None
unfolding fault_of fault_in
prefers all e v m = one_fault (fault_in rule.PreferredPlexIsThere all) all (VolRecord v) m (second_none (fault_over rule.PreferredPlexIsThere all) (first_of (fault_in rule.PreferredPlexIsThere all) all) (preferred all e))

kind_kept : (all : List Object) (vol : Word) (rdpol : PolicyKind) (prefer : Option Word) → prefer_fault_of all vol rdpol prefer ≡ None → policy_kind (policy_of rdpol prefer) ≡ rdpol
kind_kept all vol kind.Round prefer e = refl
kind_kept all vol kind.Prefer (Some plex) e = refl
kind_kept all vol kind.Prefer None e = cc
kind_kept all vol kind.Select prefer e = refl

plex_kept : (all : List Object) (vol : Word) (rdpol : PolicyKind) (prefer : Option Word) → prefer_fault_of all vol rdpol prefer ≡ None → policy_plex (policy_of rdpol prefer) ≡ prefer
plex_kept all vol kind.Round None e = refl
plex_kept all vol kind.Round (Some plex) e = cc
plex_kept all vol kind.Prefer (Some plex) e = refl
plex_kept all vol kind.Prefer None e = cc
plex_kept all vol kind.Select None e = refl
plex_kept all vol kind.Select (Some plex) e = cc

-- ---- the states afterwards

abbrev pub plex_state : Word → (Plex → PlexState) → Plex → PlexState
plex_state vol after p = if refers p.vol vol then after p else p.state

abbrev pub vol_state : Word → VolState → Vol → VolState
vol_state vol next w = if bytes_eq w.name vol then next else w.state

module _ (c : Config) (v : Vol) (recorded : IsRecorded c v) (next : VolState) (after : Plex → PlexState) where
  abbrev all : List Object
  all = objects_of c

  abbrev own : List Plex
  own = plexes_of c v.name

  differ : repeated_after [] all ≡ None
  differ = names_differ all (is_kept c)

  -- a plex of the name of another is that plex
  one_plex : (p q : Plex) → IsAmong c.plexes p → IsAmong c.plexes q → bytes_eq p.name q.name ≡ true → q ≡ p
  one_plex p q m n is =
      let same : p.name ≡ q.name = bytes_eq_same p.name q.name is in
      let one : PlexRecord q ≡ PlexRecord p = one_record all differ (PlexRecord q) (PlexRecord p) (records_plex c q n) (records_plex c p m) (sym same) in
      cc

  own_plex : (p q : Plex) → IsAmong c.plexes p → IsAmong own q → bytes_eq p.name q.name ≡ true → q ≡ p
  own_plex p q m n is = let r = from_filter (λ x. refers x.vol v.name) c.plexes q n in one_plex p q m r.0 is

  -- a plex is set where it is one of the volume
  is_own : (p : Plex) → IsAmong c.plexes p → is_named after own p ≡ refers p.vol v.name
  is_own p m = by (refers p.vol v.name) (is_named after own p) refl refl
    where
      by : (a b : Bool) → refers p.vol v.name ≡ a → is_named after own p ≡ b → b ≡ a
      by true b e f = sym f ∙ any_among (λ q. bytes_eq p.name q.name) own p (in_filter (λ x. refers x.vol v.name) c.plexes p m e) (bytes_eq_self p.name)
      by false true e f =
          let r = any_from (λ q. bytes_eq p.name q.name) own f in
          let self : r.0 ≡ p = own_plex p r.0 m r.1 r.2 in
          let is = (from_filter (λ x. refers x.vol v.name) c.plexes r.0 r.1).1 in
          sym (ap (λ (x : Plex). refers x.vol v.name) (sym self) ∙ is) ∙ e
      by false false e f = refl

  abbrev f : Plex → PlexState
  f = plex_state v.name after

  abbrev g : Vol → VolState
  g = vol_state v.name next

  plex_set : (p : Plex) → IsAmong c.plexes p → set_all after own (PlexRecord p) ≡ PlexRecord (plex_in f p)
  plex_set p m = set_named after p own (λ q n is. own_plex p q m n is) p.state ∙ ap (λ (b : Bool). PlexRecord (record p { state = if b then after p else p.state })) (is_own p m)

  volume_set : (w : Vol) → IsAmong c.volumes w → set_vol v.name next (policy_of v.rdpol v.prefer) (VolRecord w) ≡ VolRecord (vol_in g w)
  volume_set w m = by (bytes_eq w.name v.name) refl
    where
      by : (b : Bool) → bytes_eq w.name v.name ≡ b
          → VolRecord (if b then record w { state = next; rdpol = policy_kind (policy_of v.rdpol v.prefer); prefer = policy_plex (policy_of v.rdpol v.prefer) } else w) ≡ VolRecord (record w { state = if b then next else w.state })
      by true e =
          let same : w.name ≡ v.name = bytes_eq_same w.name v.name e in
          let one : VolRecord v ≡ VolRecord w = one_record all differ (VolRecord v) (VolRecord w) recorded (records_vol c w m) (sym same) in
          let self : v ≡ w = cc in
          let fits = prefers all (is_kept c) w (records_vol c w m) in
          let k = ap (λ (x : Vol). policy_kind (policy_of x.rdpol x.prefer)) self ∙ kind_kept all w.name w.rdpol w.prefer fits in
          let q = ap (λ (x : Vol). policy_plex (policy_of x.rdpol x.prefer)) self ∙ plex_kept all w.name w.rdpol w.prefer fits in
          λ i. VolRecord (record w { state = next; rdpol = k i; prefer = q i })
      by false e = refl

  each_set : (o : Object) → IsAmong all o → set_all after own (set_vol v.name next (policy_of v.rdpol v.prefer) o) ≡ restated f g o
  each_set (PlexRecord p) m = plex_set p (plex_recorded c p m)
  each_set (VolRecord w) m = ap (λ (o : Object). set_all after own o) (volume_set w (vol_recorded c w m)) ∙ set_none after own (VolRecord (vol_in g w)) (λ q. refl)
  each_set (GroupRecord x) m = set_none after own (GroupRecord x) (λ q. refl)
  each_set (DiskRecord x) m = set_none after own (DiskRecord x) (λ q. refl)
  each_set (SubdiskRecord x) m = set_none after own (SubdiskRecord x) (λ q. refl)
  each_set (DcoRecord x) m = set_none after own (DcoRecord x) (λ q. refl)
  each_set (SnapRecord x) m = set_none after own (SnapRecord x) (λ q. refl)

  -- the records afterwards
  pub all_set : edited_by (state_edits next after c v) all ≡ map (restated f g) all
  all_set = both_edited after next v own all ∙ map_alike (λ o. set_all after own (set_vol v.name next (policy_of v.rdpol v.prefer) o)) (restated f g) all each_set

  -- ---- the configuration afterwards

  in_states : (w : Vol) → vol_in g w ≡ in_state v.name next w
  in_states w = by (bytes_eq w.name v.name)
    where
      by : (b : Bool) → record w { state = if b then next else w.state } ≡ (if b then record w { state = next } else w)
      by true = refl
      by false = refl

  plex_after : (p : Plex) → IsPlexAfter v.name after p (plex_in f p)
  plex_after p = record {
    same = refl;
    own = λ e. ap (λ (b : Bool). if b then after p else p.state) e;
    other = λ e. ap (λ (b : Bool). if b then after p else p.state) e;
  }

  plexes_after : (ps : List Plex) → AllZip (IsPlexAfter v.name after) ps (map (plex_in f) ps)
  plexes_after [] = tt
  plexes_after (p ∷ ps) = (plex_after p, plexes_after ps)

  restates : (c' : Config) → HasKinds c' c.group c.version c.disks c.subdisks (map (plex_in f) c.plexes) (map (vol_in g) c.volumes) c.dcos c.snaps → Restates v.name next after c c'
  restates c' has = record {
    group = has.group;
    version = has.version;
    disks = has.disks;
    subdisks = has.subdisks;
    plexes = subst (λ (ps : List Plex). AllZip (IsPlexAfter v.name after) c.plexes ps) (sym has.plexes) (plexes_after c.plexes);
    volumes = has.volumes ∙ map_alike (vol_in g) (in_state v.name next) c.volumes (λ w m. in_states w);
    dcos = has.dcos;
    snaps = has.snaps;
  }

  pub each_restates : (c' : Config) → IsEdited (state_edits next after c v) c c' → Restates v.name next after c c'
  each_restates c' edited =
      restates c' (has_kinds c' c.group c.version c.disks c.subdisks (map (plex_in f) c.plexes) (map (vol_in g) c.volumes) c.dcos c.snaps
      (edited ∙ ap in_kinds (all_set ∙ records_restated f g c) ∙ are_sorted c.disks c.subdisks (map (plex_in f) c.plexes) (map (vol_in g) c.volumes) c.dcos c.snaps c.group c.version))

  pub still_recorded : (c' : Config) → Restates v.name next after c c' → IsRecorded c' (record v { state = next })
  still_recorded c' changed =
      let here : IsAmong (map (in_state v.name next) c.volumes) (in_state v.name next v) = among_map (in_state v.name next) c.volumes v (vol_recorded c v recorded) in
      let self : in_state v.name next v ≡ record v { state = next } = ap (λ (b : Bool). if b then record v { state = next } else v) (bytes_eq_self v.name) in
      records_vol c' (record v { state = next }) (subst (λ (vs : List Vol). IsAmong vs (record v { state = next })) (sym changed.volumes) (subst (λ (w : Vol). IsAmong (map (in_state v.name next) c.volumes) w) self here))
