-- What is read from an image lies within what it stands for.
use Rattle.std.proofs.Common.{◌≡◌, inl, inr, ℕ, ◌/◌, refl, sym, subst, ap, List, [], ◌∷◌}
use Rattle.std.specs.Prelude.{Contains}
use Rattle.vx_life.specs.Candidates.{IsAmong, IsListed}
use Rattle.vx_image.proofs.PlexMembers.{IsIn}
use Rattle.vx_image.specs.Image.{PlexImage}
use Rattle.vx_image.specs.Meaning.{plex_values, plexes_read, EachImageStandsForItself, EachReadingIsWithin}
use Rattle.vx_image.proofs.Members.{is_in, contains}

listed_in : (ps : List PlexImage) (p : PlexImage) (b : ℕ) → IsIn ps p → IsListed (plex_values b ps) (p.values b)
listed_in [] p b one = absurd one
listed_in (q ∷ qs) p b (inl same) = inl (ap (λ (x : PlexImage). x.values b) same)
listed_in (q ∷ qs) p b (inr one) = inr (listed_in qs p b one)

pub listed : (ps : List PlexImage) (p : PlexImage) (b : ℕ) → Contains ps p → IsListed (plex_values b ps) (p.values b)
listed ps p b one = listed_in ps p b (is_in ps p one)

pub read_stands : EachImageStandsForItself
read_stands v b lt p one = listed (plexes_read v.state v (b / v.region)) p b one

unlisted : (ps : List PlexImage) (b : ℕ) (x : List ℕ) → IsListed (plex_values b ps) x → (p : PlexImage) × IsIn ps p × (x ≡ p.values b)
unlisted [] b x none = absurd none
unlisted (q ∷ qs) b x (inl same) = (q, inl refl, same)
unlisted (q ∷ qs) b x (inr one) = let r = unlisted qs b x one in (r.0, inr r.1, r.2)

pub read_within : EachReadingIsWithin
read_within v candidates stands b x lt among =
    let p = unlisted (plexes_read v.state v (b / v.region)) b x among in
    subst (λ (value : List ℕ). IsAmong (candidates b) value) (sym p.2) (stands b lt p.0 (contains (plexes_read v.state v (b / v.region)) p.0 p.1))
