-- Configurations that are alike but for states of plexes, which are nowhere longer in the one.
use Rattle.std.proofs.Common.{◌≡◌, ◌∙◌, ◌≤◌, ◌+◌, Bool, true, false, Option, Some, None, List, [], ◌∷◌, map, refl, sym, ap, subst, arith}
use Rattle.std.specs.Prelude.{◌||◌}
use Rattle.std.specs.List.{AllZip}
use Rattle.std.specs.Str.{bytes_eq}
use Rattle.vx_base.specs.Named.{Word}
use Rattle.vx_base.proofs.NamedLemmas.{bytes_eq_same}
use Rattle.vx_config_parts.specs.declared.object.Object.TheVariants.{PlexRecord}
use Rattle.vx_config_parts.specs.declared.plex.Plex.{Plex}
use Rattle.vx_config_parts.specs.declared.state.PlexState.{PlexState}
use Rattle.vx_config_parts.specs.declared.state.PlexState.TheVariants as plex
use Rattle.vx_config_parts.specs.Objects.{refers}
use Rattle.vx_state_edits.specs.Laws.{IsPlexAfter, in_state}
use Rattle.vx_state_texts.specs.Alike.{EachAlikeIsNoLonger, EachChangeStaysAlike, IsNoShorter, is_plex_in, word_size}
use Rattle.vx_state_texts.proofs.Sizes.{size_of, text_size}
use Rattle.vx_state_texts.proofs.Stops.{config_below, restated_below, state_line}
use Rattle.vx_state_texts.proofs.Sums.{sum_below}

-- ---- texts

-- the line has eight bytes beside the name
line_of : (s : PlexState) → state_line s ≡ word_size s + 8
line_of plex.Empty = refl
line_of plex.Clean = refl
line_of plex.Active = refl
line_of plex.Stale = refl
line_of plex.IoFail = refl
line_of plex.SnapAtt = refl
line_of plex.SnapDone = refl
line_of plex.DcoSnp = refl

plex_longer : (done : Word → Bool) (p q : Plex) → IsNoShorter done p q → size_of (PlexRecord p) ≤ size_of (PlexRecord q)
plex_longer done p q is =
    let word = is.word in
    subst (λ (x : Plex). size_of (PlexRecord p) ≤ size_of (PlexRecord x)) (sym is.same)
    (restated_below p p.state q.state (omega (arith, word, line_of p.state, line_of q.state)))

plexes_longer : (done : Word → Bool) (ps qs : List Plex) → AllZip (IsNoShorter done) ps qs → AllZip (λ x y. size_of x ≤ size_of y) (map PlexRecord ps) (map PlexRecord qs)
plexes_longer done [] [] all = tt
plexes_longer done [] (q ∷ qs) all = elim all [ ]
plexes_longer done (p ∷ ps) [] all = elim all [ ]
plexes_longer done (p ∷ ps) (q ∷ qs) all = (plex_longer done p q all.0, plexes_longer done ps qs all.1)

pub alike_is_no_longer : EachAlikeIsNoLonger
alike_is_no_longer done c d alike text other printed printed_other =
    let le = config_below c d alike.group alike.version alike.disks alike.subdisks alike.volumes alike.dcos alike.snaps
    (sum_below size_of (map PlexRecord c.plexes) (map PlexRecord d.plexes) (plexes_longer done c.plexes d.plexes alike.plexes)) in
    omega (arith, le, text_size c text printed, text_size d other printed_other)

-- ---- a change of another volume

or_left : (a b : Bool) → (a || b) ≡ false → a ≡ false
or_left true b e = cc
or_left false b e = refl

or_right : (a b : Bool) → (a || b) ≡ false → b ≡ false
or_right true b e = cc
or_right false b e = e

module _ (done : Word → Bool) (vol : Word) (out : done vol ≡ false) (after more : Plex → PlexState) (below : (p : Plex) → word_size (after p) ≤ word_size (more p)) where
  abbrev later : Word → Bool
  later name = done name || bytes_eq name vol

  outside : (o : Option Word) → is_plex_in later o ≡ false → (is_plex_in done o ≡ false) × (refers o vol ≡ false)
  outside None e = (refl, refl)
  outside (Some name) e = (or_left (done name) (bytes_eq name vol) e, or_right (done name) (bytes_eq name vol) e)

  own_outside : (o : Option Word) → refers o vol ≡ true → is_plex_in done o ≡ false
  own_outside None e = refl
  own_outside (Some name) e = ap done (bytes_eq_same name vol e) ∙ out

  one_plex : (p q p' q' : Plex) → IsNoShorter done p q → IsPlexAfter vol after p p' → IsPlexAfter vol more q q' → IsNoShorter later p' q'
  one_plex p q p' q' is one other = record {
    same = other.same ∙ ap (λ (x : Plex). record x { state = q'.state }) is.same ∙ sym (ap (λ (x : Plex). record x { state = q'.state }) one.same);
    word = by (refers p.vol vol) refl;
    kept = λ e.
        let own : is_plex_in later p.vol ≡ false = sym (ap (λ (x : Plex). is_plex_in later x.vol) one.same) ∙ e in
        let o = outside p.vol own in
        other.other (ap (λ (x : Plex). refers x.vol vol) is.same ∙ o.1) ∙ is.kept o.0 ∙ sym (one.other o.1);
  }
    where
      by : (b : Bool) → refers p.vol vol ≡ b → word_size p'.state ≤ word_size q'.state
      by true e =
          let alike : q ≡ p = is.same ∙ ap (λ (s : PlexState). record p { state = s }) (is.kept (own_outside p.vol e)) in
          let was : p'.state ≡ after p = one.own e in
          let now : q'.state ≡ more p = other.own (ap (λ (x : Plex). refers x.vol vol) is.same ∙ e) ∙ ap more alike in
          subst (λ (s : PlexState). word_size s ≤ word_size q'.state) (sym was) (subst (λ (s : PlexState). word_size (after p) ≤ word_size s) (sym now) (below p))
      by false e =
          let was : p'.state ≡ p.state = one.other e in
          let now : q'.state ≡ q.state = other.other (ap (λ (x : Plex). refers x.vol vol) is.same ∙ e) in
          subst (λ (s : PlexState). word_size s ≤ word_size q'.state) (sym was) (subst (λ (s : PlexState). word_size p.state ≤ word_size s) (sym now) is.word)

  all_plexes : (ps qs ps' qs' : List Plex) → AllZip (IsNoShorter done) ps qs → AllZip (IsPlexAfter vol after) ps ps' → AllZip (IsPlexAfter vol more) qs qs' → AllZip (IsNoShorter later) ps' qs'
  all_plexes [] [] [] [] all one other = tt
  all_plexes [] [] [] (q' ∷ qs') all one other = elim other [ ]
  all_plexes [] [] (p' ∷ ps') qs' all one other = elim one [ ]
  all_plexes [] (q ∷ qs) ps' qs' all one other = elim all [ ]
  all_plexes (p ∷ ps) [] ps' qs' all one other = elim all [ ]
  all_plexes (p ∷ ps) (q ∷ qs) [] qs' all one other = elim one [ ]
  all_plexes (p ∷ ps) (q ∷ qs) (p' ∷ ps') [] all one other = elim other [ ]
  all_plexes (p ∷ ps) (q ∷ qs) (p' ∷ ps') (q' ∷ qs') all one other = (one_plex p q p' q' all.0 one.0 other.0, all_plexes ps qs ps' qs' all.1 one.1 other.1)

pub change_stays_alike : EachChangeStaysAlike
change_stays_alike done c d alike vol out next after more below c' d' one other = record {
  group = other.group ∙ alike.group ∙ sym one.group;
  version = other.version ∙ alike.version ∙ sym one.version;
  disks = other.disks ∙ alike.disks ∙ sym one.disks;
  subdisks = other.subdisks ∙ alike.subdisks ∙ sym one.subdisks;
  plexes = all_plexes done vol out after more below c.plexes d.plexes c'.plexes d'.plexes alike.plexes one.plexes other.plexes;
  volumes = other.volumes ∙ ap (map (in_state vol next)) alike.volumes ∙ sym one.volumes;
  dcos = other.dcos ∙ alike.dcos ∙ sym one.dcos;
  snaps = other.snaps ∙ alike.snaps ∙ sym one.snaps;
}
