-- `messages::reading::read_descriptors` meets its contract. The measure is the count of descriptors left. Assumes nothing.
use Rattle.messages.proofs.reading.+read_descriptors.Given as goal

abbrev pub decreases-read_descriptors : goal.decreases-read_descriptors
decreases-read_descriptors l = l.left
