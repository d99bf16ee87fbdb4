use Rattle.ob_types.proofs.TreeBytes.{bytes_few, bytes_many}
use Rattle.ob_types.proofs.TreeBytes.{eight, narrow, whole_words, few_words, few_rounded}
use Rattle.object_nodes.proofs.laws.trees_take_bytes.Goals as goal

pub returns : goal.returns
returns c = record {
  few = bytes_few;
  many = bytes_many;
  eight = eight;
  words = whole_words;
  narrow = narrow;
  moved = few_words;
  rounded = few_rounded;
}
