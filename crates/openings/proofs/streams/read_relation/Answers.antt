use mathlib.Core.Path.{sym, ◌∙◌}
use Rattle.grammar.specs.Reader.{name, word}
use Rattle.grammar.proofs.StepLaws.{cursor-read, same-read}
use Rattle.openings.proofs.StreamLaws.{by_name_lem, by_number_lem}
use Rattle.openings.proofs.streams.read_relation.Goals as goal

pub returns-in_ok-next-in-Relation : goal.returns-in_ok-next-in-Relation
returns-in_ok-next-in-Relation c = λ is-proper. c.placed.ensures ∙ rw (c.relation_named.ensures, c.name_at.ensures, c.in-Relation.is)
    (by_name_lem _ is-proper _ _ (cursor-read (name _ _) (sym c.in_ok-next-in-Relation.was ∙ c.skip_name.ensures)).1)

pub returns-in_ok-i-in-Rid : goal.returns-in_ok-i-in-Rid
returns-in_ok-i-in-Rid c = λ is-proper. c.placed-in-Rid.ensures ∙ rw (c.relation_numbered.ensures, c.in-Rid.is)
    (by_number_lem _ is-proper _ _ (same-read (word _ _) (sym c.in_ok-i-in-Rid.was ∙ c.next_word.ensures)))
