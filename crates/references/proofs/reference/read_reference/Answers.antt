-- `references::reference::read_reference` meets its contract. By the codes. Assumes nothing.
use mathlib.Core.Bool.{true, false}
use mathlib.Core.Path.{◌≡◌, sym, ◌∙◌}
use Rattle.std.proofs.Common.{rules}
use Rattle.std.specs.Prelude.{Err}
use Rattle.references.specs.Promises.{environment_of}
use Rattle.references.proofs.reference.read_reference.Goals as goal

pub returns-in_err-relation-in-Field : goal.returns-in_err-relation-in-Field
returns-in_err-relation-in-Field c =
    let f : c.from_residual.result ≡ Err c.in_err-relation-in-Field.field-0.0 = search rules in
    rw (c.in-Field.is, f) (sym (c.in_err-relation-in-Field.ensures c.args.dictionary.now (environment_of c.args.dictionary.now c.args.around.now) c.args.at true))

pub returns-in-Field : goal.returns-in-Field
unfolding environment_of
returns-in-Field c =
    rw (c.in-Field.is, c.read_named.ensures, c.version.ensures)
    (sym (c.in_ok-relation-in-Field.ensures c.args.dictionary.now (environment_of c.args.dictionary.now c.args.around.now) c.args.at true))

pub returns-in_err-relation-in-Fid : goal.returns-in_err-relation-in-Fid
returns-in_err-relation-in-Fid c =
    let f : c.from_residual-in_err-relation-in-Fid.result ≡ Err c.in_err-relation-in-Fid.field-0.0 = search rules in
    rw (c.in-Fid.is, f) (sym (c.in_err-relation-in-Fid.ensures c.args.dictionary.now (environment_of c.args.dictionary.now c.args.around.now) c.args.at false))

pub returns-in-Fid : goal.returns-in-Fid
unfolding environment_of
returns-in-Fid c =
    rw (c.in-Fid.is, c.read_numbered.ensures, c.version-in-Fid.ensures)
    (sym (c.in_ok-relation-in-Fid.ensures c.args.dictionary.now (environment_of c.args.dictionary.now c.args.around.now) c.args.at false))

pub returns-in_err-x-in-Parameter : goal.returns-in_err-x-in-Parameter
returns-in_err-x-in-Parameter c =
    let f : c.from_residual-in_err-x-in-Parameter.result ≡ Err c.in_err-x-in-Parameter.field-0.0 = search rules in
    rw (c.in-Parameter.is, f) (sym (c.in_err-x-in-Parameter.ensures c.args.dictionary.now c.args.at false))

pub returns-in_err-x-in-Parameter2 : goal.returns-in_err-x-in-Parameter2
returns-in_err-x-in-Parameter2 c =
    let f : c.from_residual-in_err-x-in-Parameter2.result ≡ Err c.in_err-x-in-Parameter2.field-0.0 = search rules in
    rw (c.in-Parameter2.is, f) (sym (c.in_err-x-in-Parameter2.ensures c.args.dictionary.now c.args.at true))

pub returns-in-Parameter : goal.returns-in-Parameter
returns-in-Parameter c = rw (c.in-Parameter.is, c.read_word.ensures)
    (sym ((c.in_ok-x-in-Parameter.ensures c.args.dictionary.now).plain c.args.at))

pub returns-in_err-fit-in-Parameter2 : goal.returns-in_err-fit-in-Parameter2
returns-in_err-fit-in-Parameter2 c =
    let f : c.from_residual-in_err-fit-in-Parameter2.result ≡ Err c.in_err-fit-in-Parameter2.field-0.0 = search rules in
    rw (c.in-Parameter2.is, f)
    (sym ((c.in_ok-x-in-Parameter2.ensures c.args.dictionary.now).cut (sym c.read_word-in-Parameter2.ensures ∙ c.in_err-fit-in-Parameter2.was) c.args.at))

pub returns-in-Parameter2 : goal.returns-in-Parameter2
returns-in-Parameter2 c = rw (c.in-Parameter2.is, c.read_flag.ensures)
    (sym ((c.in_ok-x-in-Parameter2.ensures c.args.dictionary.now).flagged
    (sym c.read_word-in-Parameter2.ensures ∙ c.in_ok-fit-in-Parameter2.was) c.args.at))
