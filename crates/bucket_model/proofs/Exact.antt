-- The test of soundness is exact: bytes are sound if and only if they are the byte form of contents that keep the rules. Assumes nothing.
use mathlib.Core.Path.{◌≡◌, refl, sym, ap, ◌∙◌}
use mathlib.Core.Bool.{true, false, ◌&&◌}
use Prim.Native.Nat.{◌≤◌}
use native.Mathlib.Omega.{arith}
use lib.Dec.{leb}
use lib.ListN.{get_or}
use borrow.Author.Tests.{le-leb, leb-true}
use Rattle.octets.specs.Octets.{same_bytes}
use Rattle.octets.proofs.Laws.{same_refl, same_eq}
use Rattle.lists.proofs.Laws.{and_left, and_right}
use Rattle.bucket_model.specs.Contents.{Contents, encode_bucket, decode_bucket}
use Rattle.bucket_model.specs.Sound.{keeps_rules, sound}
use Rattle.bucket_model.specs.Claims.{SoundHasForm, FormIsSound}
use Rattle.bucket_model.proofs.ByteForm.{decode_encode_bucket, decode_bucket_is}

pub sound_has_form : SoundHasForm
unfolding sound
sound_has_form home clock s n bs h =
    let a = leb (get_or s 0 0) 16 in
    let b = leb (get_or s 1 0) 4 in
    let c = same_bytes (encode_bucket (decode_bucket s)) s in
    let d = keeps_rules home clock (decode_bucket s) in
    let h₁ : (b && (c && d)) ≡ true = and_right a (b && (c && d)) h in
    let h₂ : (c && d) ≡ true = and_right b (c && d) h₁ in
    record {
      held = decode_bucket s;
      is = decode_bucket_is s n bs (leb-true _ _ (and_left a (b && (c && d)) h)) (leb-true _ _ (and_left b (c && d) h₁));
      form = sym (same_eq (encode_bucket (decode_bucket s)) s (and_left c d h₂));
      keeps = and_right c d h₂;
    }

pub form_is_sound : FormIsSound
unfolding sound encode_bucket
form_is_sound home clock s f =
    let m : Contents = f.held in
    let back : decode_bucket s ≡ m = ap decode_bucket f.form ∙ decode_encode_bucket m f.is in
    let same : same_bytes (encode_bucket (decode_bucket s)) s ≡ true =
    ap (λ b. same_bytes (encode_bucket b) s) back ∙ ap (λ l. same_bytes l s) (sym f.form) ∙ same_refl s in
    let most : leb (get_or s 0 0) 16 ≡ true = ap (λ l. leb (get_or l 0 0) 16) f.form ∙ le-leb _ _ f.is.most in
    let most_waiting : leb (get_or s 1 0) 4 ≡ true = ap (λ l. leb (get_or l 1 0) 4) f.form ∙ le-leb _ _ f.is.most_waiting in
    let keeps : keeps_rules home clock (decode_bucket s) ≡ true = ap (λ b. keeps_rules home clock b) back ∙ f.keeps in
    cc (most, most_waiting, same, keeps)
