-- Lines added to a text, one after another.
use Rattle.std.proofs.Common.{◌≡◌, List, [], ◌∷◌, ◌++◌, codes, refl, ap, ◌∙◌, append_assoc}
use Rattle.iewalk.specs.declared.line.Line.{Line}
use Rattle.iewalk.specs.Lines.{line_text, text}

pub text_joined : (xs ys : List Line) → text xs ++ text ys ≡ text (xs ++ ys)
text_joined [] ys = refl
text_joined (x ∷ xs) ys = append_assoc (line_text x ++ codes "\n") (text xs) (text ys) ∙ ap (λ t. (line_text x ++ codes "\n") ++ t) (text_joined xs ys)
