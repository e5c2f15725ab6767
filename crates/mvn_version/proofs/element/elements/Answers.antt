-- An iteration that pushes an element: the token is neither a word of release nor a zero that trails.
use Rattle.std.proofs.Common.{◌≡◌, ◌∷◌, ◌&&◌, ◌||◌, not, Bool, true, false, refl, ap, sym, ◌∙◌, arith, get_or}
use Rattle.std.proofs.lemmas.List.{reverse-append}
use Rattle.mvn_version.specs.Token as token
use Rattle.mvn_version.specs.Token.{is_dot}
use Rattle.mvn_version.specs.Key.{element, elements, full_word, is_joined, is_number, is_release, is_zero, zeros_trail}
use Rattle.mvn_version.specs.Element.{shown}
use Rattle.mvn_version.specs.Order.{ended}
use Rattle.mvn_version.proofs.Gathering.{behind, behind_more, full, kept, placeholder, standing, text}
use Rattle.mvn_version.proofs.element.elements.Goals as goal
use Rattle.mvn_version.proofs.element.elements.Goals.{then-trail, else-trail}
use Rattle.mvn_version.proofs.element.elements.Goals.{then-not-is_number, else-not-is_number}

and_false : (b : Bool) → (b && false) ≡ false
and_false true = refl
and_false false = refl

pub loop-token-preserved : goal.loop-token-preserved
loop-token-preserved c =
    let xs = c.args.tokens.now in
    let i = c.loop-token.token-index in
    let t = token.shown (get_or xs i placeholder) in
    let ts = behind xs i in
    let more = behind_more xs i (omega arith) in
    let word : c.full_word-text.result.now ≡ text t ts = c.full_word-text.ensures ∙ (λ k. full_word (c.loop-token.invariant.joins k) t.text) in
    let stays : is_release (text t ts) ≡ false = sym (ap is_release word) ∙ sym c.is_release.ensures ∙ c.if-is_release.false in
    let stands : (is_zero (text t ts) && zeros_trail (kept ts)) ≡ false =
    elim c.if-trail.branch [
      | then-trail w ↦ (λ k. (sym (ap is_zero word) ∙ sym w.is_zero.ensures ∙ sym w.value-is ∙ c.if-is_zero.false) k && zeros_trail (kept ts))
      | else-trail w ↦ (λ k. is_zero (text t ts) && (sym c.loop-token.invariant.trails ∙ w.if-trail.false) k) ∙ and_false (is_zero (text t ts))
    ] in
    let s = standing t ts stays stands in
    let made : shown c.in_ok-token_element.field-0 ≡ element (full t ts) = c.in_ok-token_element.ensures ∙ (λ k. element (record { mark = t.mark; text = word k })) in
    let digits : is_number (text t ts) ≡ c.is_number.result = sym (ap is_number word) ∙ sym c.is_number.ensures in
    let trail : c.if-not-is_number.trail ≡ (not (is_number (text t ts)) || not (is_dot t.mark)) =
    elim c.if-not-is_number.branch [
      | then-not-is_number w ↦ w.trail-is ∙ ap not w.if-not-is_number.true ∙ sym (λ k. not ((digits ∙ w.if-not-is_number.true) k) || not (is_dot t.mark))
      | else-not-is_number w ↦ w.trail-is ∙ ap not w.is_dot.ensures ∙ sym (λ k. not ((digits ∙ w.if-not-is_number.false) k) || not (is_dot t.mark))
    ] in
    record {
      keyed = rw (c.in_ok-push-2.ensures.items, reverse-append)
          ((λ k. made k ∷ c.loop-token.invariant.keyed k) ∙ sym (ap ended s.0) ∙ sym (ap (λ us. ended (elements us)) more));
      trails = trail ∙ sym s.1 ∙ sym (ap (λ us. zeros_trail (kept us)) more);
      joins = c.is_seam-joined.ensures ∙ sym (ap is_joined more);
    }
