-- `store::make_of` meets its contract. By the length; then the header. Assumes nothing.
use Rattle.dictionary.specs.Internal.Walk.{relation_at}
use Rattle.records.proofs.Records.{id-is}
use Rattle.store.proofs.Called.{made-long, made-cut, made-empty, empty-bytes}
use borrow.Author.Rules.{rules}
use mathlib.Core.Path.{◌∙◌}
use Rattle.store.proofs.make_of.Goals as goal

pub returns-then-buffer-gt-MAX_STORE_BYTES : goal.returns-then-buffer-gt-MAX_STORE_BYTES
returns-then-buffer-gt-MAX_STORE_BYTES c = made-long (relation_at c.args.d.now c.args.relation) c.args.buffer.now _ c.refused.ensures c.if-buffer-gt-MAX_STORE_BYTES.true

pub returns-then-buffer-lt-STORE_HEADER : goal.returns-then-buffer-lt-STORE_HEADER
returns-then-buffer-lt-STORE_HEADER c = made-cut (relation_at c.args.d.now c.args.relation) c.args.buffer.now c.if-buffer-gt-MAX_STORE_BYTES.false _ c.refused-then-buffer-lt-STORE_HEADER.ensures c.if-buffer-lt-STORE_HEADER.true

pub put_word-requires-3 : goal.put_word-requires-3
put_word-requires-3 c = (search rules, c.word_on.ensures.1)

pub returns : goal.returns
returns c = let r = relation_at c.args.d.now c.args.relation in
    made-empty r c.args.buffer.now c.if-buffer-gt-MAX_STORE_BYTES.false c.if-buffer-lt-STORE_HEADER.false _
    (rw (c.put_word-3.ensures, c.put_word-2.ensures, c.put_word.ensures, c.clear.ensures)
    (empty-bytes r c.args.buffer.now c.word_on.result c.if-buffer-lt-STORE_HEADER.false (c.word_on.ensures.0 ∙ id-is c.args.d.now c.args.relation)))
