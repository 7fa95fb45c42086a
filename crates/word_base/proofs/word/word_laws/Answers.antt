use Rattle.word_base.proofs.Bytes.{words_back, bytes_back, bytes_length, words_length, word_of}
use Rattle.word_base.proofs.word.word_laws.Goals as goal

pub returns-clause-words_back : goal.returns-clause-words_back
returns-clause-words_back c = words_back

pub returns-clause-bytes_back : goal.returns-clause-bytes_back
returns-clause-bytes_back c = bytes_back

pub returns-clause-bytes_length : goal.returns-clause-bytes_length
returns-clause-bytes_length c = bytes_length

pub returns-clause-words_length : goal.returns-clause-words_length
returns-clause-words_length c = words_length

pub returns-clause-word : goal.returns-clause-word
returns-clause-word c = word_of
