-- A device may be read or not, by its kind.
use Rattle.std.proofs.Common.{◌≡◌, ◌⊎◌, inl, inr, Bool, true, false, refl, sym, ◌∙◌, ap, subst}
use Rattle.bench_devices.specs.declared.device.Device.{Device}
use Rattle.bench_devices.specs.declared.device.Device.TheVariants.{T2, T4, Peer, T5, T3}
use Rattle.bench_devices.specs.declared.polling.SeenKind.TheVariants as seen
use Rattle.bench_devices.specs.Kinds.{DeviceKind, T2Kind, T3Kind, T4Kind, PeerKind, T5Kind, IfRead}
use Rattle.bench_devices.specs.Device.{kind_of, seen_of, is_tag, may_be_read, may_be_found}

pub read_or_not : (d : Device) → (may_be_read d ≡ true) ⊎ (may_be_read d ≡ false)
read_or_not (T2 d) = inl refl
read_or_not (T4 d) = inl refl
read_or_not (Peer d) = inr refl
read_or_not (T5 p) = inl refl
read_or_not (T3 p) = inr refl

pub as_read : (d : Device) → may_be_read d ≡ true → (P Q : Type 0) → P → IfRead (kind_of d) P Q
as_read (T2 d) tag P Q p = p
as_read (T4 d) tag P Q p = p
as_read (Peer d) tag P Q p = absurd cc
as_read (T5 d) tag P Q p = p
as_read (T3 d) tag P Q p = absurd cc

pub of_read : (d : Device) → may_be_read d ≡ true → (P Q : Type 0) → IfRead (kind_of d) P Q → P
of_read (T2 d) tag P Q p = p
of_read (T4 d) tag P Q p = p
of_read (Peer d) tag P Q p = absurd cc
of_read (T5 d) tag P Q p = p
of_read (T3 d) tag P Q p = absurd cc

pub as_unread : (d : Device) → may_be_read d ≡ false → (P Q : Type 0) → Q → IfRead (kind_of d) P Q
as_unread (T2 d) other P Q q = absurd cc
as_unread (T4 d) other P Q q = absurd cc
as_unread (Peer d) other P Q q = q
as_unread (T5 d) other P Q q = absurd cc
as_unread (T3 d) other P Q q = q

pub of_unread : (d : Device) → may_be_read d ≡ false → (P Q : Type 0) → IfRead (kind_of d) P Q → Q
of_unread (T2 d) other P Q t = absurd cc
of_unread (T4 d) other P Q t = absurd cc
of_unread (Peer d) other P Q t = t
of_unread (T5 d) other P Q t = absurd cc
of_unread (T3 d) other P Q t = t

-- no tag is a peer
pub peer_kind : (d : Device) → is_tag d ≡ false → kind_of d ≡ PeerKind
peer_kind (T2 d) peer = absurd cc
peer_kind (T4 d) peer = absurd cc
peer_kind (Peer d) peer = refl
peer_kind (T5 d) peer = absurd cc
peer_kind (T3 d) peer = absurd cc

-- what isn't a peer is a tag
unfoldable pub tag_kind : DeviceKind → Bool
tag_kind T2Kind = true
tag_kind T3Kind = true
tag_kind T4Kind = true
tag_kind PeerKind = false
tag_kind T5Kind = true

tag_is : (d : Device) → is_tag d ≡ tag_kind (kind_of d)
unfolding tag_kind
tag_is (T2 d) = refl
tag_is (T4 d) = refl
tag_is (Peer d) = refl
tag_is (T5 d) = refl
tag_is (T3 d) = refl

pub same_tag : (d e : Device) → kind_of d ≡ kind_of e → is_tag d ≡ is_tag e
same_tag d e same = tag_is d ∙ ap tag_kind same ∙ sym (tag_is e)

read_kind : DeviceKind → Bool
read_kind T2Kind = true
read_kind T3Kind = false
read_kind T4Kind = true
read_kind PeerKind = false
read_kind T5Kind = true

read_is : (d : Device) → may_be_read d ≡ read_kind (kind_of d)
unfolding read_kind
read_is (T2 d) = refl
read_is (T4 d) = refl
read_is (Peer d) = refl
read_is (T5 d) = refl
read_is (T3 d) = refl

pub same_read : (d e : Device) → kind_of d ≡ kind_of e → may_be_read d ≡ may_be_read e
same_read d e same = read_is d ∙ ap read_kind same ∙ sym (read_is e)

-- what is seen and isn't read is a peer
pub unread_seen : (d : Device) → may_be_found d ≡ true → may_be_read d ≡ false → seen_of d ≡ seen.Peer
unread_seen (T2 d) found other = absurd cc
unread_seen (T4 d) found other = absurd cc
unread_seen (Peer d) found other = refl
unread_seen (T5 d) found other = absurd cc
unread_seen (T3 d) found other = absurd cc

pub told_read : (d : Device) (P Q : Type 0) → (Q → ⊥) → IfRead (kind_of d) P Q → may_be_read d ≡ true
told_read (T2 d) P Q never t = refl
told_read (T4 d) P Q never t = refl
told_read (Peer d) P Q never t = absurd (never t)
told_read (T5 d) P Q never t = refl
told_read (T3 d) P Q never t = absurd (never t)

-- what follows from either
pub either_if : (kind : DeviceKind) (P Q R : Type 0) → (P → R) → (Q → R) → IfRead kind P Q → R
either_if T2Kind P Q R p q t = p t
either_if T3Kind P Q R p q t = q t
either_if T4Kind P Q R p q t = p t
either_if PeerKind P Q R p q t = q t
either_if T5Kind P Q R p q t = p t

pub if_read : (kind : DeviceKind) (P Q : Type 0) → P → Q → IfRead kind P Q
if_read T2Kind P Q p q = p
if_read T3Kind P Q p q = q
if_read T4Kind P Q p q = p
if_read PeerKind P Q p q = q
if_read T5Kind P Q p q = p

-- one thing is so, where one is of a device that is read and one of another
pub one_if : {X : Type 0} (kind : DeviceKind) (P : X → Type 0) (w : X) → ((a b : X) → P a → P b → a ≡ b) → (a b : X) → IfRead kind (P a) (a ≡ w) → IfRead kind (P b) (b ≡ w) → a ≡ b
one_if T2Kind P w one a b p q = one a b p q
one_if T3Kind P w one a b p q = p ∙ sym q
one_if T4Kind P w one a b p q = one a b p q
one_if PeerKind P w one a b p q = p ∙ sym q
one_if T5Kind P w one a b p q = one a b p q

map_if : (kind : DeviceKind) (P Q R S : Type 0) → (P → R) → (Q → S) → IfRead kind P Q → IfRead kind R S
map_if T2Kind P Q R S f g t = f t
map_if T3Kind P Q R S f g t = g t
map_if T4Kind P Q R S f g t = f t
map_if PeerKind P Q R S f g t = g t
map_if T5Kind P Q R S f g t = f t

pub if_as : (k l : DeviceKind) → k ≡ l → (P Q R S : Type 0) → (P → R) → (Q → S) → IfRead k P Q → IfRead l R S
if_as k l same P Q R S f g t = subst (λ z. IfRead z R S) same (map_if k P Q R S f g t)
