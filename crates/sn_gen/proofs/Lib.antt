mod GenLemmas
