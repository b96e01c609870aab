mod OnesLemmas
